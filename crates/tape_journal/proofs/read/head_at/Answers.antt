use Rattle.std.proofs.Common.{◌≡◌, ◌-◌, ◌∙◌, ℕ, ap, length, drop, take, arith, length-take, length-drop}
use Rattle.std.specs.Prelude.{min}
use Rattle.disk_model.specs.Disk.{content}
use Rattle.tape_journal.proofs.Reading.{first_five}
use Rattle.tape_journal.proofs.read.head_at.Goals as goal

pub returns-then-has_room-clause-is : goal.returns-then-has_room-clause-is
returns-then-has_room-clause-is g c honest len =
    let all = content (g.D.Disk.log c.args.disk.now) in
    let rest = drop c.args.at all in
    let left : length rest ≡ c.args.len - c.args.at = omega (arith, length-drop c.args.at all) in
    let octets : c.lend.result.now ≡ take c.min-count.result rest =
    c.lend.ensures ∙ c.in_ok-from.ensures.octets honest in
    let long : length c.lend.result.now ≡ min (length rest) 5 =
    omega (arith, left, ap length octets, length-take c.min-count.result rest, c.min-count.ensures) in
    c.head_of.ensures.is rest left (first_five rest c.lend.result.now _ octets long)

pub returns-clause-is : goal.returns-clause-is
returns-clause-is g c honest len =
    let all = content (g.D.Disk.log c.args.disk.now) in
    let rest = drop c.args.at all in
    let left : length rest ≡ c.args.len - c.args.at = omega (arith, length-drop c.args.at all) in
    let long : length c.fill.new.into ≡ min (c.args.len - c.args.at) 5 =
    omega (arith, c.fill.auto.into, length-take {A = ℕ}) in
    c.head_of-2.ensures.is rest left
    (first_five rest c.fill.new.into _ (c.in_ok-fill.ensures.octets honest) (omega (arith, left, long)))
