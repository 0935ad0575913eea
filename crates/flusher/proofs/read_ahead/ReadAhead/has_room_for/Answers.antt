use Rattle.std.proofs.Common.{◌-◌, ℕ, Bool, length, sym, ap, ◌∙◌, arith}
use Rattle.std.specs.Prelude.{◌&&◌, nat_lt}
use Rattle.std.proofs.lemmas.Bool.{lt-ltb, ltb_from_iff}
use Rattle.flusher.specs.Ahead.{is_above, most_ahead}
use Rattle.flusher.proofs.Ahead.{is_above_last}
use Rattle.flusher.proofs.read_ahead.ReadAhead.has_room_for.Goals as goal

pub returns-in-Some : goal.returns-in-Some
returns-in-Some c =
    let ahead = c.args.self.now in
    let kept = ahead.debts.items in
    let key = c.args.key in
    let last = c.in-Some.last.now in
    let is = c.in-Some.ensures.item in
    let below = ltb_from_iff c.is_below.ensures in
    let above = is_above_last kept key last (ahead.debts.len - 1) ahead.rising
    (omega (arith, is.3.0, ahead.debts.ok.0)) is.1 in
    below ∙ (ap (λ (k : ℕ). nat_lt k key) c.key.ensures ∙ (sym above
    ∙ sym (ap (λ (b : Bool). b && is_above kept key) (lt-ltb (length kept) most_ahead (omega arith)))))
