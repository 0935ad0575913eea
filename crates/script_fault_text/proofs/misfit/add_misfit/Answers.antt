-- The parts of the message are added one after another.
use Rattle.std.proofs.Common.{◌++◌, ◌∷◌, [], ◌+◌}
use Rattle.std.specs.Prelude.{codes}
use Rattle.script_fault_text.specs.FaultText.{place_text, shown}
use Rattle.script_fault_text.proofs.Adding.{added}
use Rattle.script_fault_text.proofs.misfit.add_misfit.Goals as goal

pub returns : goal.returns
returns c =
    let old = c.args.out.now.items in
    let place = place_text c.args.place.source.now c.args.place.number (c.args.before + 1) in
    let quote = place ++ codes ": \"" in
    let word = quote ++ shown c.args.word.now in
    let expected = word ++ codes ": expected " in
    let two = added old c.add_place.new.out.items c.extend_from_slice.new.self.items place (codes ": \"")
    c.in_ok-add_place.ensures c.in_ok-extend_from_slice.ensures.items in
    let three = added old c.extend_from_slice.new.self.items c.add_shown.new.out.items quote (shown c.args.word.now)
    two c.in_ok-add_shown.ensures in
    let four = added old c.add_shown.new.out.items c.extend_from_slice-2.new.self.items word (codes ": expected ")
    three c.in_ok-extend_from_slice-2.ensures.items in
    let five = added old c.extend_from_slice-2.new.self.items c.extend_from_slice-3.new.self.items expected
    c.args.wanted.now four c.in_ok-extend_from_slice-3.ensures.items in
    added old c.extend_from_slice-3.new.self.items c.push.new.self.items (expected ++ c.args.wanted.now) (10 ∷ []) five
    c.in_ok-push.ensures.items
