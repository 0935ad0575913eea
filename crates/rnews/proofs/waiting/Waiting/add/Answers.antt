-- What is kept for the message-id has one more token, and what is kept for another stays.
use Rattle.std.proofs.Common.{◌≡◌, ◌++◌, ◌∷◌, [], ℕ, List, Some, true, false, refl, sym, ap, ◌∙◌, subst}
use Rattle.std.proofs.lemmas.Bool.{false≢true}
use Rattle.std.specs.BTreeMap.{get_by}
use Rattle.std.specs.Cmp.Lexicographic.{slice_cmp}
use Rattle.std.specs.Option.{is_some}
use Rattle.std.specs.Ordering.{nat_cmp}
use Rattle.std.specs.Vec.{vec_items}
use Rattle.rnews.specs.Waits.{IsKeptFor, StandsFor, Wait, kept_at, tokens_for}
use Rattle.rnews.specs.declared.waiting.Tokens.TheVariants.{One, Several}
use Rattle.rnews.specs.declared.waiting.Waiting.{Waiting}
use Rattle.rnews.proofs.Keys.{lookup-other}
use Rattle.rnews.proofs.Waits.{Same, same, differ, compare, kept_added, tokens_for-added, tokens_for-other}
use Rattle.rnews.proofs.waiting.Waiting.add.Goals.{then-contains_key, else-contains_key}
use Rattle.rnews.proofs.waiting.Waiting.add.Goals as goal

pub returns-clause-ok : goal.returns-clause-ok
returns-clause-ok c = λ waits stands.
    let id = c.args.id.now in
    let token = c.args.token in
    let old = c.args.self.now in
    let new : Waiting = record { alloc = c.args.self.now.alloc; by_id = c.insert.new.self } in
    let wait : Wait = record { token = c.args.token; id = c.args.id.now } in
    let u = c.in_ok-insert.ensures.updates in
    let key : c.in_ok-key.key.items ≡ id = c.in_ok-key.ensures.items ∙ c.bytes.ensures.value in
    let there : c.contains_key.result ≡ is_some (kept_at old id) =
    subst (λ octets. c.contains_key.result ≡ is_some (get_by (λ k. slice_cmp nat_cmp octets
    (vec_items k)) old.by_id)) c.bytes-2.ensures.value c.contains_key.ensures in
    let here : kept_at new id ≡ Some c.if-contains_key.tokens =
    subst (λ octets. get_by (λ k. slice_cmp nat_cmp octets (vec_items k)) c.insert.new.self
    ≡ Some c.if-contains_key.tokens) key u.1 in
    let more : is_some (kept_at old id) ≡ true → c.if-contains_key.tokens ≡ Several = λ some.
    elim c.if-contains_key.branch as (λ _. c.if-contains_key.tokens ≡ Several) [
      | then-contains_key w ↦ w.tokens-is
      | else-contains_key w ↦ absurd (false≢true (sym w.if-contains_key.false
          ∙ (there ∙ some)))
    ] in
    let one : is_some (kept_at old id) ≡ false → c.if-contains_key.tokens ≡ One token = λ none.
    elim c.if-contains_key.branch as (λ _. c.if-contains_key.tokens ≡ One token) [
      | then-contains_key w ↦ absurd (false≢true (sym none ∙ (sym there
          ∙ w.if-contains_key.true)))
      | else-contains_key w ↦ w.tokens-is
    ] in
    record {
      kept = λ other.
          elim (compare other id) as (λ _. IsKeptFor (kept_at new other) (tokens_for other (waits ++ wait ∷ []))) [
            | same e ↦ subst (λ o. IsKeptFor (kept_at new o) (tokens_for o (waits ++ wait ∷ []))) (sym e)
                (rw (here, tokens_for-added id token waits)
                (kept_added (kept_at old id) c.if-contains_key.tokens (tokens_for id waits) token
                (stands.kept id) more one))
            | differ apart unlike ↦ rw (
              lookup-other vec_items c.in_ok-key.key.items other old.by_id.entries c.insert.new.self.entries u.3
                  (λ e. apart (e ∙ key)),
              tokens_for-other id other token waits unlike,
            ) (stands.kept other)
          ];
    }
