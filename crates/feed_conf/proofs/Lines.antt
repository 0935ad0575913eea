-- The lines of a text, and what running their items gives.
use Rattle.std.proofs.Common.{◌≡◌, ◌<◌, ◌≤◌, ◌+◌, ◌==◌, ℕ, Bool, true, false, not, List, [], ◌∷◌, length, map, take, drop, cond, None, Some, Ok, Err, refl, ap, subst, ◌∙◌, arith, ltb}
use Rattle.std.specs.List.{position, prefix_len, slice_split}
use Rattle.std.proofs.lemmas.List.Splits.{slice_split_first}
use Rattle.std.proofs.lemmas.Bool.{ltb-true, ltb-false}
use Rattle.feed_conf.specs.Items.{Item}
use Rattle.feed_conf.specs.Reading.{State, lines_of, step, run_line, run_lines, at_line, then_on}
use Rattle.feed_conf.specs.declared.fault.ConfFault.{ConfFault}
use Rattle.feed_conf.specs.declared.fault.ConfFaultKind.{ConfFaultKind}

one-step : (p : ℕ → Bool) (x : ℕ) (xs : List ℕ) (b : Bool) → p x ≡ b → length (x ∷ xs) ≤ prefix_len (λ y. not (p y)) (x ∷ xs) → (length xs ≤ prefix_len (λ y. not (p y)) xs → slice_split p xs ≡ xs ∷ []) → slice_split p (x ∷ xs) ≡ (x ∷ xs) ∷ []
one-step p x xs true e h k =
    let none : prefix_len (λ y. not (p y)) (x ∷ xs) ≡ 0 = rw e refl in
    absurd (omega (arith, h, none))
one-step p x xs false e h k =
    let more : prefix_len (λ y. not (p y)) (x ∷ xs) ≡ 1 + prefix_len (λ y. not (p y)) xs = rw e refl in
    rw (e, k (omega (arith, h, more))) refl

-- a text without LF is one line
one-line : (p : ℕ → Bool) (xs : List ℕ) → length xs ≤ prefix_len (λ y. not (p y)) xs → slice_split p xs ≡ xs ∷ []
one-line p [] h = refl
one-line p (x ∷ xs) h = one-step p x xs (p x) refl h (one-line p xs)

none-step : (n m : ℕ) (b : Bool) → ltb n m ≡ b → cond b (Some n) None ≡ None → m ≤ n
none-step n m true e h = cc
none-step n m false e h = ltb-false n m e

some-step : (n m i : ℕ) (b : Bool) → ltb n m ≡ b → cond b (Some n) None ≡ Some i → (n ≡ i) × (n < m)
some-step n m i true e h = (cc, ltb-true n m e)
some-step n m i false e h = cc

pub last-line : (text : List ℕ) → position (λ octet. octet == 10) text ≡ None → lines_of text ≡ text ∷ []
last-line text h =
    let n = prefix_len (λ octet. not (octet == 10)) text in
    one-line (λ octet. octet == 10) text (none-step n (length text) (ltb n (length text)) refl h)

pub next-line : (text : List ℕ) (end : ℕ) → position (λ octet. octet == 10) text ≡ Some end → lines_of text ≡ take end text ∷ lines_of (drop (end + 1) text)
next-line text end h =
    let n = prefix_len (λ octet. not (octet == 10)) text in
    let both = some-step n (length text) end (ltb n (length text)) refl h in
    subst (λ i. lines_of text ≡ take i text ∷ lines_of (drop (i + 1) text)) both.0 (slice_split_first (λ octet. octet == 10) text 0 both.1)

pub run-end : (items : List Item) (state : State) (line : ℕ) → items ≡ [] → run_line items state line ≡ Ok state
run-end items state line e = ap (λ z. run_line z state line) e

pub run-next : (items rest : List Item) (item : Item) (state next : State) (line : ℕ) → items ≡ item ∷ rest → step state line item ≡ Ok next → run_line items state line ≡ run_line rest next line
run-next items rest item state next line e h = ap (λ z. run_line z state line) e ∙ ap (λ z. at_line line z (λ n. run_line rest n line)) h

pub run-stop : (items rest : List Item) (item : Item) (state : State) (kind : ConfFaultKind) (line : ℕ) → items ≡ item ∷ rest → step state line item ≡ Err kind → run_line items state line ≡ Err (record { line = line; kind = kind })
run-stop items rest item state kind line e h = ap (λ z. run_line z state line) e ∙ ap (λ z. at_line line z (λ n. run_line rest n line)) h

-- the lines from one line on
pub lines-next : (lines rest : List (List ℕ)) (octets : List ℕ) (to_items : List ℕ → List Item) (state next : State) (line : ℕ) → lines ≡ octets ∷ rest → run_line (to_items octets) state line ≡ Ok next → run_lines (map to_items lines) state line ≡ run_lines (map to_items rest) next (line + 1)
lines-next lines rest octets to_items state next line e h =
    ap (λ z. run_lines (map to_items z) state line) e ∙ ap (λ z. then_on z (λ n. run_lines (map to_items rest) n (line + 1))) h

pub lines-stop : (lines rest : List (List ℕ)) (octets : List ℕ) (to_items : List ℕ → List Item) (state : State) (fault : ConfFault) (line : ℕ) → lines ≡ octets ∷ rest → run_line (to_items octets) state line ≡ Err fault → run_lines (map to_items lines) state line ≡ Err fault
lines-stop lines rest octets to_items state fault line e h =
    ap (λ z. run_lines (map to_items z) state line) e ∙ ap (λ z. then_on z (λ n. run_lines (map to_items rest) n (line + 1))) h
