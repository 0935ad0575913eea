use Rattle.std.proofs.lemmas.Option.{IfSome_then}
use Rattle.funnel_files.proofs.line_file.LineFile.next_read.Goals as goal

pub returns-clause-line : goal.returns-clause-line
returns-clause-line g c =
    IfSome_then c.next.result c.next.ensures.line (λ octets gives read given has.
    let line = gives read given has.stands in
    (line.0, line.1, record { stands = line.2; rest = has.rest }))
