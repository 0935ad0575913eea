use Rattle.std.proofs.Common.{◌∙◌, take, drop, ap}
use Rattle.disk_model.specs.Disk.{content}
use Rattle.tape_journal.proofs.Windows.{within_same}
use Rattle.tape_journal.proofs.window.Window.hold.Goals as goal

pub returns-in-Some-clause-octets : goal.returns-in-Some-clause-octets
returns-in-Some-clause-octets g c honest =
    let window = c.args.self.now in
    let found = c.in-Some.ensures.found in
    within_same window.octets.items (content (g.D.Disk.log c.args.disk.now)) window.start window.held
    c.in-Some.from c.args.count found.0 (c.requires.shows honest).same
    ∙ ap (λ n. take c.args.count (drop n (content (g.D.Disk.log c.args.disk.now)))) found.1
