-- `bucket_at` hashes the string, where there is one.
use Rattle.base.proofs.Split.{clash}
use Rattle.interner.proofs.Finds.{found, found_not}
use Rattle.text_index.proofs.bucket_at.Goals as goal

pub returns-in_err-string_at-clause-value : goal.returns-in_err-string_at-clause-value
returns-in_err-string_at-clause-value c =
    let t = c.args.texts.now in
    λ q. clash q (found_not t.spans.now t.bytes.now c.args.h (rw c.in_err-string_at.was at c.string_at.ensures))

pub returns-clause-value : goal.returns-clause-value
returns-clause-value c =
    let t = c.args.texts.now in
    λ q. rw (c.bucket.ensures.0, ← (found t.spans.now t.bytes.now c.args.h c.in_ok-string_at.field-0.now c.in_ok-string_at.ensures).string)
