use Rattle.std.proofs.Common.{ℕ, List, [], ◌∷◌, ◌++◌, ◌∙◌, sym, ap, arith}
use Rattle.tape_journal.specs.Segment.{IsShort, gated, open_gate}
use Rattle.tape_journal.proofs.Lists.{AllShort-append}
use Rattle.tape_journal.proofs.Reading.{records-push}
use Rattle.tape_journal.proofs.gathered.Gathered.push.Goals as goal

pub returns-in-Ok-clause-ok : goal.returns-in-Ok-clause-ok
returns-in-Ok-clause-ok c = λ payloads gathers.
    let payload = c.args.payload.now in
    let short : IsShort payload = omega (arith, c.if-payload.false) in
    record {
      records = c.in-Ok.ensures.ok ∙ (ap (λ (l : List ℕ). l ++ gated open_gate payload) gathers.records
          ∙ sym (records-push payloads payload));
      short = AllShort-append payloads (payload ∷ []) gathers.short (short, tt);
    }
