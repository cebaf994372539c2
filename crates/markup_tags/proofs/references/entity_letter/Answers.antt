-- `references::entity_letter`: letters so far, by the one or two that can follow.
use mathlib.Core.Path.{◌∙◌}
use Rattle.markup_tags.proofs.Entities.{behind_am, behind_ap, behind_apo, behind_g, behind_l, behind_q, behind_qu, behind_quo, no_letter}
use Rattle.markup_tags.proofs.references.entity_letter.Goals as goal

pub returns-in-A : goal.returns-in-A
returns-in-A c = rw c.in-A.is c.behind_letter_a.ensures

pub returns-in-Am : goal.returns-in-Am
returns-in-Am c = rw c.in-Am.is (c.only_letter.ensures ∙ behind_am c.args.c)

pub returns-in-Ap : goal.returns-in-Ap
returns-in-Ap c = rw c.in-Ap.is (c.only_letter-in-Ap.ensures ∙ behind_ap c.args.c)

pub returns-in-Apo : goal.returns-in-Apo
returns-in-Apo c = rw c.in-Apo.is (c.only_letter-in-Apo.ensures ∙ behind_apo c.args.c)

pub returns-in-G : goal.returns-in-G
returns-in-G c = rw c.in-G.is (c.only_letter-in-G.ensures ∙ behind_g c.args.c)

pub returns-in-L : goal.returns-in-L
returns-in-L c = rw c.in-L.is (c.only_letter-in-L.ensures ∙ behind_l c.args.c)

pub returns-in-Q : goal.returns-in-Q
returns-in-Q c = rw c.in-Q.is (c.only_letter-in-Q.ensures ∙ behind_q c.args.c)

pub returns-in-Qu : goal.returns-in-Qu
returns-in-Qu c = rw c.in-Qu.is (c.only_letter-in-Qu.ensures ∙ behind_qu c.args.c)

pub returns-in-Quo : goal.returns-in-Quo
returns-in-Quo c = rw c.in-Quo.is (c.only_letter-in-Quo.ensures ∙ behind_quo c.args.c)

pub returns-in_default : goal.returns-in_default
returns-in_default c =
    no_letter c.args.letters c.args.c
    c.in_default.not-A c.in_default.not-Am c.in_default.not-Ap c.in_default.not-Apo c.in_default.not-G
    c.in_default.not-L c.in_default.not-Q c.in_default.not-Qu c.in_default.not-Quo
