-- The first word is a message-id or none.
use Rattle.std.proofs.Common.{◌≡◌, ℕ, false, List, ◌∷◌, Option, Some, None, Result, Ok, Err, sym, refl, inl, inr, subst}
use Rattle.std.specs.Prelude.{IfOk, IfSome, IsSome, IsTrue, ◌↔◌}
use Rattle.std.proofs.lemmas.Bool.{cases_Bool}
use Rattle.funnel.specs.Names.{is_msg_id}
use Rattle.funnel.specs.Words.{IsFirstWord}
use Rattle.funnel.specs.WordLaws.{has_words, words_from_first}
use Rattle.reply_reader.specs.Reply.{HasId}
use Rattle.reply_reader.proofs.line.read_id.Goals as goal

-- what `MsgId::read` gives of the first word
id_of : (rest word behind : List ℕ) (o : Option (List ℕ)) → IsFirstWord rest word behind → (IsSome o ↔ IsTrue (is_msg_id word)) → IfSome o (λ id. id ≡ word) → HasId rest o
id_of rest word behind None first found value =
    let others = has_words behind in
    let no : is_msg_id word ≡ false = elim (cases_Bool (is_msg_id word)) [ inl is ↦ (let some = found.1 is in cc) | inr not_id ↦ not_id ] in
    (word ∷ others.0, words_from_first rest word behind others.0 first others.1, no)
id_of rest word behind (Some id) first found value =
    let others = has_words behind in
    let is : IsTrue (is_msg_id word) = found.0 refl in
    let whole = words_from_first rest word behind others.0 first others.1 in
    subst (λ w. HasId rest (Some w)) (sym value) (others.0, whole, is)

id_read : {E : Type 0} (rest word behind : List ℕ) (r : Result (Option (List ℕ)) E) → IsFirstWord rest word behind → IfOk r (λ o. IsSome o ↔ IsTrue (is_msg_id word))
    → IfOk r (λ o. IfSome o (λ id. id ≡ word)) → IfOk r (λ o. HasId rest o)
id_read rest word behind (Ok o) first found value = id_of rest word behind o first found value
id_read rest word behind (Err e) first found value = tt

pub returns-in-Some : goal.returns-in-Some
returns-in-Some c =
    id_read c.args.rest.now c.in-Some.word.now c.in-Some.field-0-1.now c.read.result c.in-Some.ensures.word c.read.ensures.found c.read.ensures.value
