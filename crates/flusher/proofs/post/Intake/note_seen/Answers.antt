use Rattle.std.proofs.Common.{rules, ◌≡◌, sym, subst}
use Rattle.std.specs.Prelude.{Err}
use Rattle.flusher.specs.Sees.{Sees}
use Rattle.flusher.proofs.Seeing.{sees_refused}
use Rattle.flusher.proofs.post.Intake.note_seen.Goals as goal

pub returns-in_err-see-clause-sees : goal.returns-in_err-see-clause-sees
returns-in_err-see-clause-sees g c h stands =
    let old = c.args.self.now.tape in
    let new = c.see.new.self.tape in
    let e = c.in_err-see.ensures in
    let fault = c.in_err-see.field-0.0 in
    let is : c.from_residual.result ≡ Err fault = search rules in
    subst (Sees c.args.number h old new) (sym is)
    (sees_refused c.args.number h old new fault e.disks (e.takes h stands).stays e.kinds.1)
