use Rattle.std.proofs.Common.{◌≡◌, ◌-◌, ◌++◌, ◌∷◌, [], List, ℕ, Some, length, ap, ◌∙◌, arith}
use Rattle.std.specs.Prelude.{Vec, slice_get}
use Rattle.std.specs.declared.alloc.Global.{Global}
use Rattle.std.proofs.lemmas.Bool.{le-leb, leb-true}
use Rattle.ledger_core.specs.Batch.{batch_spelling}
use Rattle.recovery.proofs.Pends.{get-last, last-length, some-apart}
use Rattle.recovery.proofs.pending.Pending.joins.Goals as goal

pub returns-in-Some-clause-joins : goal.returns-in-Some-clause-joins
returns-in-Some-clause-joins c = λ prefix old is batch note batch_is octets len.
    let items = c.args.self.now.payloads.items in
    let here : Some c.in-Some.last.now ≡ slice_get items (length items - 1) =
    c.in-Some.ensures.value
    ∙ ap (λ (l : List (Vec ℕ Global)). slice_get l (length l - 1)) c.deref.ensures.value in
    let place : length items - 1 ≡ length prefix = omega (arith, ap length is, last-length prefix old) in
    let same : c.in-Some.last.now ≡ old =
    some-apart c.in-Some.last.now old (here ∙ (ap (λ (n : ℕ). slice_get items n) place
    ∙ (ap (λ (l : List (Vec ℕ Global)). slice_get l (length prefix)) is ∙ get-last prefix old))) in
    let joined : c.joined_len.result ≡ length (batch_spelling (batch ++ note ∷ [])) =
    c.joined_len.ensures.joined batch note batch_is
    (c.deref-in-Some.ensures.value ∙ (ap (λ (v : Vec ℕ Global). v.items) same ∙ octets)) len in (
      λ told. omega (arith, joined, leb-true c.joined_len.result 65536 told),
      λ fits. le-leb c.joined_len.result 65536 (omega (arith, joined, fits)),
    )
