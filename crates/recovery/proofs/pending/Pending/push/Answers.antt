use Rattle.std.proofs.Common.{inl, inr, ◌≡◌, ◌-◌, ◌++◌, ◌∷◌, [], List, ℕ, Some, length, refl, sym, ap, ◌∙◌, arith}
use Rattle.std.specs.Prelude.{Vec, slice_get, slice_set}
use Rattle.std.specs.declared.alloc.Global.{Global}
use Rattle.std.proofs.lemmas.Option.{slice_get-get_or, slice_get_within}
use Rattle.std.proofs.lemmas.Bool.{cases_lt, false≢true}
use Rattle.ledger_core.specs.Batch.{batch_spelling, longest_batch}
use Rattle.recovery.proofs.Pends.{begins_so, ends, fit-set, get-last, joins_so, last-length, pushed-begins}
use Rattle.recovery.proofs.Pends.{pushed-joins, set-last, some-apart}
use Rattle.recovery.proofs.pending.Pending.push.Goals as goal

pub join-requires : goal.join-requires
join-requires c =
    let items = c.args.self.now.payloads.items in
    let there : slice_get items (c.args.self.now.payloads.len - 1) ≡ Some c.in-Some.payload.now =
    slice_get-get_or items (c.args.self.now.payloads.len - 1) c.in-Some.payload.now
    (omega (arith, c.in-Some.ensures.variant.0 refl, c.args.self.now.payloads.ok.0))
    ∙ ap (λ (v : Vec ℕ Global). Some v) (sym c.in-Some.ensures.value) in
    let here : slice_get items (length items - 1) ≡ Some c.in-Some.payload.now =
    ap (λ (n : ℕ). slice_get items (n - 1)) (sym c.args.self.now.payloads.ok.0) ∙ there in
    record {
      room = omega (
        arith,
        c.requires.room.joins c.in-Some.payload.now here,
        ap length c.deref.ensures.value,
      );
    }

pub returns-then-not-joins-clause-holds : goal.returns-then-not-joins-clause-holds
returns-then-not-joins-clause-holds c = λ notes last holds is spelled.
    pushed-begins c.args.self.now _ notes last c.args.note holds is spelled c.push_reserved.ensures.items
    (λ prefix old was batch batch_is octets.
    elim (cases_lt longest_batch (length (batch_spelling (batch ++ last ∷ [])))) [
      | inl long ↦ long
      | inr fits ↦ absurd (false≢true ((c.if-not-joins.ensures.joins prefix old was batch last batch_is octets
          (c.len.ensures ∙ (c.args.note.ok.0 ∙ ap length spelled))).1 fits))
    ])

pub returns-then-not-joins-clause-grows : goal.returns-then-not-joins-clause-grows
returns-then-not-joins-clause-grows c = λ notes last holds is spelled.
    inl (begins_so c.args.self.now.payloads.items _ last c.args.note spelled c.push_reserved.ensures.items
    (λ prefix old was batch batch_is octets.
    elim (cases_lt longest_batch (length (batch_spelling (batch ++ last ∷ [])))) [
      | inl long ↦ long
      | inr fits ↦ absurd (false≢true ((c.if-not-joins.ensures.joins prefix old was batch last batch_is octets
          (c.len.ensures ∙ (c.args.note.ok.0 ∙ ap length spelled))).1 fits))
    ]))

pub invariant_of-self-in-Some : goal.invariant_of-self-in-Some
invariant_of-self-in-Some c =
    let items = c.args.self.now.payloads.items in
    let there : slice_get items (c.args.self.now.payloads.len - 1) ≡ Some c.in-Some.payload.now =
    slice_get-get_or items (c.args.self.now.payloads.len - 1) c.in-Some.payload.now
    (omega (arith, c.in-Some.ensures.variant.0 refl, c.args.self.now.payloads.ok.0))
    ∙ ap (λ (v : Vec ℕ Global). Some v) (sym c.in-Some.ensures.value) in
    let here : slice_get items (length items - 1) ≡ Some c.in-Some.payload.now =
    ap (λ (n : ℕ). slice_get items (n - 1)) (sym c.args.self.now.payloads.ok.0) ∙ there in
    let within = slice_get_within items (length items - 1) c.in-Some.payload.now here in
    let end = ends items (omega (arith, within)) in
    let place : length items - 1 ≡ length end.prefix = omega (
      arith,
      ap length end.is,
      last-length end.prefix
          end.last,
    ) in
    let found : end.last ≡ c.in-Some.payload.now =
    some-apart end.last c.in-Some.payload.now (sym (get-last end.prefix end.last)
    ∙ (ap (λ (l : List (Vec ℕ Global)). slice_get l (length end.prefix)) (sym end.is)
    ∙ (ap (λ (n : ℕ). slice_get items n) (sym place) ∙ here))) in
    let now : slice_set items (c.args.self.now.payloads.len - 1) c.join.new.payload ≡ end.prefix ++ c.join.new.payload ∷ [] =
    ap (λ (n : ℕ). slice_set items (n - 1) c.join.new.payload) c.args.self.now.payloads.ok.0
    ∙ (ap (λ (n : ℕ). slice_set items n c.join.new.payload) place
    ∙ (ap (λ (l : List (Vec ℕ Global)). slice_set l (length end.prefix) c.join.new.payload) end.is
    ∙ set-last end.prefix end.last c.join.new.payload)) in
    let joins = c.if-not-joins.ensures.fits c.in-Some.payload.now here refl in
    record {
      fewer = omega (
        arith,
        c.args.self.now.fewer,
        ap length now,
        ap length end.is,
        last-length end.prefix end.last,
        last-length end.prefix c.join.new.payload,
      );
      fit = fit-set items _ end.prefix end.last c.join.new.payload longest_batch end.is now
          (omega (arith, c.join.ensures.len, joins, c.len.ensures, c.args.note.ok.0, ap length c.deref.ensures.value))
          c.args.self.now.fit;
    }

pub returns-in-Some-clause-holds : goal.returns-in-Some-clause-holds
returns-in-Some-clause-holds c = λ notes last holds is spelled.
    let items = c.args.self.now.payloads.items in
    let there : slice_get items (c.args.self.now.payloads.len - 1) ≡ Some c.in-Some.payload.now =
    slice_get-get_or items (c.args.self.now.payloads.len - 1) c.in-Some.payload.now
    (omega (arith, c.in-Some.ensures.variant.0 refl, c.args.self.now.payloads.ok.0))
    ∙ ap (λ (v : Vec ℕ Global). Some v) (sym c.in-Some.ensures.value) in
    let here : slice_get items (length items - 1) ≡ Some c.in-Some.payload.now =
    ap (λ (n : ℕ). slice_get items (n - 1)) (sym c.args.self.now.payloads.ok.0) ∙ there in
    let within = slice_get_within items (length items - 1) c.in-Some.payload.now here in
    let end = ends items (omega (arith, within)) in
    let place : length items - 1 ≡ length end.prefix = omega (
      arith,
      ap length end.is,
      last-length end.prefix
          end.last,
    ) in
    let found : end.last ≡ c.in-Some.payload.now =
    some-apart end.last c.in-Some.payload.now (sym (get-last end.prefix end.last)
    ∙ (ap (λ (l : List (Vec ℕ Global)). slice_get l (length end.prefix)) (sym end.is)
    ∙ (ap (λ (n : ℕ). slice_get items n) (sym place) ∙ here))) in
    let now : slice_set items (c.args.self.now.payloads.len - 1) c.join.new.payload ≡ end.prefix ++ c.join.new.payload ∷ [] =
    ap (λ (n : ℕ). slice_set items (n - 1) c.join.new.payload) c.args.self.now.payloads.ok.0
    ∙ (ap (λ (n : ℕ). slice_set items n c.join.new.payload) place
    ∙ (ap (λ (l : List (Vec ℕ Global)). slice_set l (length end.prefix) c.join.new.payload) end.is
    ∙ set-last end.prefix end.last c.join.new.payload)) in
    pushed-joins c.args.self.now _ notes last end.prefix end.last c.join.new.payload holds is end.is now
    (λ batch batch_is octets.
    let joins = (c.if-not-joins.ensures.joins end.prefix end.last end.is batch last batch_is octets
    (c.len.ensures ∙ (c.args.note.ok.0 ∙ ap length spelled))).0 refl in (
      joins,
      c.join.ensures.joined batch last batch_is (ap (λ (v : Vec ℕ Global). v.items) (sym found) ∙ octets)
          (c.deref.ensures.value ∙ spelled) joins,
    ))

pub returns-in-Some-clause-grows : goal.returns-in-Some-clause-grows
returns-in-Some-clause-grows c = λ notes last holds is spelled.
    let items = c.args.self.now.payloads.items in
    let there : slice_get items (c.args.self.now.payloads.len - 1) ≡ Some c.in-Some.payload.now =
    slice_get-get_or items (c.args.self.now.payloads.len - 1) c.in-Some.payload.now
    (omega (arith, c.in-Some.ensures.variant.0 refl, c.args.self.now.payloads.ok.0))
    ∙ ap (λ (v : Vec ℕ Global). Some v) (sym c.in-Some.ensures.value) in
    let here : slice_get items (length items - 1) ≡ Some c.in-Some.payload.now =
    ap (λ (n : ℕ). slice_get items (n - 1)) (sym c.args.self.now.payloads.ok.0) ∙ there in
    let within = slice_get_within items (length items - 1) c.in-Some.payload.now here in
    let end = ends items (omega (arith, within)) in
    let place : length items - 1 ≡ length end.prefix = omega (
      arith,
      ap length end.is,
      last-length end.prefix
          end.last,
    ) in
    let found : end.last ≡ c.in-Some.payload.now =
    some-apart end.last c.in-Some.payload.now (sym (get-last end.prefix end.last)
    ∙ (ap (λ (l : List (Vec ℕ Global)). slice_get l (length end.prefix)) (sym end.is)
    ∙ (ap (λ (n : ℕ). slice_get items n) (sym place) ∙ here))) in
    let now : slice_set items (c.args.self.now.payloads.len - 1) c.join.new.payload ≡ end.prefix ++ c.join.new.payload ∷ [] =
    ap (λ (n : ℕ). slice_set items (n - 1) c.join.new.payload) c.args.self.now.payloads.ok.0
    ∙ (ap (λ (n : ℕ). slice_set items n c.join.new.payload) place
    ∙ (ap (λ (l : List (Vec ℕ Global)). slice_set l (length end.prefix) c.join.new.payload) end.is
    ∙ set-last end.prefix end.last c.join.new.payload)) in
    inr (joins_so c.args.self.now _ notes last end.prefix end.last c.join.new.payload holds end.is now
    (λ batch batch_is octets.
    let joins = (c.if-not-joins.ensures.joins end.prefix end.last end.is batch last batch_is octets
    (c.len.ensures ∙ (c.args.note.ok.0 ∙ ap length spelled))).0 refl in (
      joins,
      c.join.ensures.joined batch last batch_is (ap (λ (v : Vec ℕ Global). v.items) (sym found) ∙ octets)
          (c.deref.ensures.value ∙ spelled) joins,
    )))
