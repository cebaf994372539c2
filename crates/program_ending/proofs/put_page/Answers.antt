-- The listing, or the line of its refusal.
use Rattle.overlay.specs.Lent.{overlay_seen}
use Rattle.program_ending.proofs.Ends.{page_listed, page_refused}
use Rattle.program_ending.proofs.put_page.Goals as goal

pub returns-in-Ok : goal.returns-in-Ok
returns-in-Ok c =
    λ l s.
    page_listed c.args.out.now (overlay_seen c.args.storage.now) s c.args.line _ _ _ c.in-Ok.is c.list.ensures

pub returns-in-Err : goal.returns-in-Err
returns-in-Err c =
    λ l s.
    page_refused c.args.out.now (overlay_seen c.args.storage.now) s c.args.line _ _ _ c.in-Err.is c.list.ensures _ l c.put_refusal.ensures
