use Rattle.std.proofs.Common.{◌≡◌, [], ap, sym, subst, take}
use Rattle.funnel.specs.Stream.{StandsFor}
use Rattle.funnel_files.specs.Funnel.{IsBehind}
use Rattle.funnel_files.proofs.Passes.{passes_all}
use Rattle.funnel_files.proofs.line_file.LineFile.skip.Goals as goal

pub returns-in-Ok-clause-passed : goal.returns-in-Ok-clause-passed
returns-in-Ok-clause-passed g c =
    let start : StandsFor c.read.new.self.cutter [] [] =
    subst (λ cutter. StandsFor cutter [] []) (sym c.in_ok-count.ensures.kept) c.loop.invariant.1 in
    let items : c.deref.result.now ≡ c.read.new.self.piece.items = search c.deref.ensures.value in
    let piece : take c.in_ok-count.count c.deref.result.now ≡ take c.in_ok-count.count c.read.new.self.piece.items =
    ap (take c.in_ok-count.count) items in
    let found : IsBehind c.loop.left (take c.in_ok-count.count c.read.new.self.piece.items) c.in-Ok.rest.now =
    subst (λ octets. IsBehind c.loop.left octets c.in-Ok.rest.now) piece c.in-Ok.ensures.found in
    passes_all c.args.lines c.loop.left (g.R.Read.remaining c.args.self.now.reader)
    (g.R.Read.remaining c.loop.self.reader)
    (g.R.Read.remaining c.read.new.self.reader)
    (take c.in_ok-count.count c.read.new.self.piece.items) c.in-Ok.rest.now c.feed.new.self
    c.loop.invariant.0 c.in_ok-count.ensures.gave found (c.in_ok-feed-in-Ok.ensures.fed [] [] start)
