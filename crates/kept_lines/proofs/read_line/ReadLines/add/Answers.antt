use Rattle.std.proofs.Common.{ℕ, List, refl, subst}
use Rattle.kept_lines.specs.Lines.{IsReading}
use Rattle.kept_lines.proofs.read_line.ReadLines.add.Goals as goal

pub returns-clause-ok : goal.returns-clause-ok
returns-clause-ok c = (
  record { text = c.args.text; reading = c.in_ok-reading.reading },
  record {
    octets = refl;
    reading =
        subst (λ (t : List ℕ). IsReading c.args.names.now t c.in_ok-reading.reading) c.deref.ensures.value
        (search c.in_ok-reading.ensures);
  },
  search c.in_ok-push.ensures.items,
)
