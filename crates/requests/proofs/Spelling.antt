-- A text that is read as a request is what is written of it.
use Rattle.std.proofs.Common.{◌≡◌, ◌==◌, ◌&&◌, ◌+◌, ◌-◌, ◌<◌, ◌∙◌, ℕ, Bool, true, false, cond, eqb, List}
use Rattle.std.proofs.Common.{[], ◌∷◌, ◌++◌, length, take, drop, get_or, refl, sym, ap, subst, arith, Option, Some}
use Rattle.std.proofs.Common.{None, Ok, Err}
use Rattle.std.proofs.lemmas.Bool.{and_parts, eqb-true, ltb-true}
use Rattle.std.proofs.lemmas.List.{append_assoc, take-append-drop, take_all, take_more}
use Rattle.std.proofs.lemmas.Slice.Eq.{bytes_eq-Decides}
use Rattle.std.specs.Prelude.{nat_le, nat_lt, slice_index}
use Rattle.std.specs.List.{find}
use Rattle.std.specs.Str.{bytes_eq}
use Rattle.requests.specs.Fields.{end_of, fault_of, fields_text, texts_in}
use Rattle.requests.specs.Requests.{HasForms, asked_by, built, line_asks, line_of, longest_request, request_in}
use Rattle.requests.specs.Requests.{request_text, texts_for, unless, word_of}
use Rattle.requests.specs.Words.{all_words, word_in, word_text}
use Rattle.requests.specs.declared.faults.RequestFault.{RequestFault}
use Rattle.requests.specs.declared.faults.RequestFault.TheVariants.{TooLong}
use Rattle.requests.specs.declared.request.Request.{Request}
use Rattle.requests.specs.declared.words.Word.{Word}
use Rattle.requests.proofs.Cuts.{texts_back}
use Rattle.requests.proofs.Fitting.{forms_kept, is_fit, texts_kept, word_kept}

-- what is found passes the test
found_step : {X : Type 0} (test : X → Bool) (x : X) (xs : List X) (y : X) (b : Bool) → test x ≡ b
    → cond b (Some x) (find test xs) ≡ Some y → (find test xs ≡ Some y → test y ≡ true) → test y ≡ true
found_step test x xs y true p e more = let same : x ≡ y = cc in subst (λ z. test z ≡ true) same p
found_step test x xs y false p e more = more e

pub found_passes : {X : Type 0} (test : X → Bool) (xs : List X) (y : X) → find test xs ≡ Some y → test y ≡ true
found_passes test [] y e = cc
found_passes test (x ∷ xs) y e = found_step test x xs y (test x) refl e (found_passes test xs y)

pub word_is : (text : List ℕ) (word : Word) → word_in text ≡ Some word → text ≡ word_text word
word_is text word e =
    (bytes_eq-Decides text (word_text word)).0 (found_passes (λ w. bytes_eq text (word_text w)) all_words word e)

-- what comes before the LF at the end
line_by : (text line : List ℕ) (b : Bool) → (nat_lt 0 (length text) && slice_index text (length text - 1) == 10) ≡ b
    → cond b (Some (take (length text - 1) text)) None ≡ Some line → text ≡ line ++ 10 ∷ []
line_by text line true p e =
    let both = and_parts (nat_lt 0 (length text)) (eqb (slice_index text (length text - 1)) 10) p in
    let some : 0 < length text = ltb-true 0 (length text) both.0 in
    let last : get_or text (length text - 1) 0 ≡ 10 = eqb-true (get_or text (length text - 1) 0) 10 both.1 in
    let first : take (length text - 1) text ≡ line = cc in
    let next : length text - 1 + 1 ≡ length text = omega (arith, some) in
    let more : take (length text - 1 + 1) text ≡ take (length text - 1) text ++ get_or text (length text - 1) 0 ∷ [] =
    take_more text (length text - 1) 0 (omega (arith, some)) in
    sym (take_all (length text) text (omega arith)) ∙ ap (λ n. take n text) (sym next) ∙ more
    ∙ ap (λ xs. xs ++ get_or text (length text - 1) 0 ∷ []) first ∙ ap (λ x. line ++ x ∷ []) last
line_by text line false p e = absurd (cc e)

pub line_is : (text line : List ℕ) → line_of text ≡ Some line → text ≡ line ++ 10 ∷ []
line_is text line e = line_by text line (nat_lt 0 (length text) && slice_index text (length text - 1) == 10) refl e

-- what a line has, if it asks something
record Asks (line : List ℕ) (request : Request) : Type 0 where
  word : Word
  is_word : word_in (take (end_of line) line) ≡ Some word
  faultless : fault_of word (texts_in (drop (end_of line) line)) ≡ None
  is_built : built word (texts_in (drop (end_of line) line)) ≡ request

unless_ok : (fault : Option RequestFault) (q r : Request) → unless fault q ≡ Ok r → (fault ≡ None) × (q ≡ r)
unless_ok None q r e = (refl, cc)
unless_ok (Some fault) q r e = absurd (cc e)

asks_by : (line : List ℕ) (r : Request) (o : Option Word) → word_in (take (end_of line) line) ≡ o
    → asked_by o (texts_in (drop (end_of line) line)) ≡ Ok r → Asks line r
asks_by line r None p e = absurd (cc e)
asks_by line r (Some word) p e =
    let parts = unless_ok (fault_of word (texts_in (drop (end_of line) line))) _ r e in
    record { word = word; is_word = p; faultless = parts.0; is_built = parts.1 }

line_spelled : (line : List ℕ) (r : Request) → Asks line r
    → (line ≡ word_text (word_of r) ++ fields_text (texts_for r)) × HasForms r
line_spelled line r asks =
    let t = texts_in (drop (end_of line) line) in
    let fit = is_fit asks.word t asks.faultless in
    let name : take (end_of line) line ≡ word_text (word_of (built asks.word t)) =
    word_is (take (end_of line) line) asks.word asks.is_word ∙ ap word_text (sym (word_kept asks.word t)) in
    let rest : drop (end_of line) line ≡ fields_text (texts_for (built asks.word t)) =
    sym (texts_back (drop (end_of line) line)) ∙ ap fields_text (sym (texts_kept asks.word t fit)) in
    let whole : line ≡ word_text (word_of (built asks.word t)) ++ fields_text (texts_for (built asks.word t)) =
    sym (take-append-drop (end_of line) line) ∙ ap (λ xs. xs ++ drop (end_of line) line) name
    ∙ ap (λ xs. word_text (word_of (built asks.word t)) ++ xs) rest in
    subst (λ q. (line ≡ word_text (word_of q) ++ fields_text (texts_for q)) × HasForms q) asks.is_built
    (whole, forms_kept asks.word t fit)

spelled_by : (text : List ℕ) (r : Request) (o : Option (List ℕ)) → line_of text ≡ o → line_asks o ≡ Ok r
    → (text ≡ request_text r) × HasForms r
spelled_by text r None p e = absurd (cc e)
spelled_by text r (Some line) p e =
    let both = line_spelled line r (asks_by line r (word_in (take (end_of line) line)) refl e) in (
      line_is text line p ∙ ap (λ xs. xs ++ 10 ∷ []) both.0
          ∙ append_assoc (word_text (word_of r)) (fields_text (texts_for r)) (10 ∷ []),
      both.1,
    )

short_by : (b : Bool) (o : Option (List ℕ)) (r : Request) → cond b (line_asks o) (Err TooLong) ≡ Ok r
    → line_asks o ≡ Ok r
short_by true o r e = e
short_by false o r e = absurd (cc e)

pub one_spelling : (text : List ℕ) (request : Request) → request_in text ≡ Ok request
    → (text ≡ request_text request) × HasForms request
one_spelling text request e =
    spelled_by text request (line_of text) refl
    (short_by (nat_le (length text) longest_request) (line_of text) request e)
