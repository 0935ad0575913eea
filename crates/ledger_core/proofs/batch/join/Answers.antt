use Rattle.std.proofs.Common.{rules, ◌≡◌, ◌+◌, ◌<◌, ◌≤◌, ◌^◌, [], ◌∷◌, ◌++◌, List, ℕ, length, length-append, sym, ap}
use Rattle.std.proofs.Common.{◌∙◌, arith}
use Rattle.std.proofs.lemmas.List.{append-nil, append_assoc}
use Rattle.std.specs.Int.{to_be_bytes, w32}
use Rattle.ledger_core.specs.Batch.{together}
use Rattle.ledger_core.specs.BatchLaws.{joined-payload, length-together, together-append}
use Rattle.ledger_core.specs.Spelling.{spelling}
use Rattle.ledger_core.proofs.batch.join.Goals as goal

pub returns-clause-joined : goal.returns-clause-joined
returns-clause-joined c = λ batch last is same note fits.
    let few : length batch + 1 < 2 ^ 32 =
    omega (
      arith,
      fits,
      length-together (batch ++ last ∷ []),
      length-append batch (last ∷ []),
      length-append (to_be_bytes w32 (length (batch ++ last ∷ []))) (together (batch ++ last ∷ [])),
    ) in
    let several = c.make_several.ensures.octets batch is same in
    let counted = c.raise_count.ensures.octets (length batch) (together batch) several few in
    let room : length c.raise_count.new.payload.items + length c.args.note.now ≤ c.raise_count.new.payload.cap =
    omega (
      arith,
      c.requires.room,
      c.make_several.ensures.len,
      c.make_several.ensures.cap,
      c.raise_count.ensures.len,
      c.raise_count.ensures.cap,
    ) in
    let whole : c.extend_from_slice.new.self.items ≡ c.raise_count.new.payload.items ++ c.args.note.now =
    search rules in
    let long : length batch + 1 ≡ length (batch ++ last ∷ []) = omega (arith, length-append batch (last ∷ [])) in
    let all : together batch ++ spelling last ≡ together (batch ++ last ∷ []) =
    ap (λ (l : List ℕ). together batch ++ l) (sym (append-nil (spelling last)))
    ∙ sym (together-append batch (last ∷ [])) in
    whole ∙ (ap (λ (l : List ℕ). l ++ c.args.note.now) counted
    ∙ (ap (λ (l : List ℕ). 11 ∷ ((to_be_bytes w32 (length batch + 1) ++ together batch) ++ l)) note
    ∙ (ap (λ (l : List ℕ). 11 ∷ l) (append_assoc (to_be_bytes w32 (length batch + 1)) (together batch) (spelling last))
    ∙ (ap (λ (l : List ℕ). 11 ∷ (to_be_bytes w32 (length batch + 1) ++ l)) all
    ∙ (ap (λ (n : ℕ). 11 ∷ (to_be_bytes w32 n ++ together (batch ++ last ∷ []))) long
    ∙ sym (joined-payload batch last is))))))
