-- What a line that is put, counted as missing, or taken out makes of what the portions tell.
use Rattle.std.proofs.Common.{◌≡◌, ◌∙◌, ℕ, ◌+◌, ◌-◌, ◌<◌, ◌≤◌, ◌^◌, ◌==◌, Bool, true, false}
use Rattle.std.proofs.Common.{List, [], ◌∷◌, ◌++◌, length}
use Rattle.std.proofs.Common.{length-append, append_assoc, append-nil, ap, refl, subst, sym, arith, eqb-true}
use Rattle.std.proofs.Math.Nat.{min-eq_left}
use Rattle.std.specs.Prelude.{min, Some, None, if◌then◌else◌}
use Rattle.std.specs.Global.{Vec}
use Rattle.log_writer.specs.declared.log_queue.Portion.{Portion}
use Rattle.log_writer.specs.LogQueue.{State, StandsFor, Tells, end_of, line_of, lost, with_line}

-- what portions tell of is what the first of them tell of, and then what the others do
split : (ps qs : List Portion) (lines : List (List ℕ)) → Tells (ps ++ qs) lines
    → (front back : List (List ℕ)) × (lines ≡ front ++ back) × Tells ps front × Tells qs back
split [] qs lines tells = ([], lines, refl, refl, tells)
split (p ∷ ps) qs lines (absent, rest, is, count, tells) =
    let (front, back, parts, before, behind) = split ps qs rest tells in (
      absent ++ (line_of p ++ front),
      back,
      is ∙ ap (λ l. absent ++ (line_of p ++ l)) parts
          ∙ ap (λ l. absent ++ l) (sym (append_assoc (line_of p) front back))
          ∙ sym (append_assoc absent (line_of p ++ front) back),
      (absent, front, refl, count, before),
      behind,
    )

joined : (ps qs : List Portion) (front back : List (List ℕ)) → Tells ps front → Tells qs back
    → Tells (ps ++ qs) (front ++ back)
joined [] qs front back is behind = subst (λ l. Tells qs (l ++ back)) (sym is) behind
joined (p ∷ ps) qs front back (absent, rest, is, count, before) behind = (
  absent,
  rest ++ back,
  ap (λ l. l ++ back) is ∙ append_assoc absent (line_of p ++ rest) back
      ∙ ap (λ l. absent ++ l) (append_assoc (line_of p) rest back),
  count,
  joined ps qs rest back before behind,
)

-- the end, where so many are missing, by whether none is
abbrev end_if : Bool → ℕ → List Portion
end_if is_none missing = if is_none then [] else record { missing = missing; line = None } ∷ []

empty : (lines : List (List ℕ)) → length lines ≡ 0 → lines ≡ []
empty [] is = refl
empty (x ∷ xs) is = absurd (omega (arith, is))

counted_if : (is_none : Bool) (missing : ℕ) (lines : List (List ℕ)) → (missing == 0) ≡ is_none
    → Tells (end_if is_none missing) lines → length lines ≡ missing
counted_if true missing lines is none = ap (λ l. length l) none ∙ sym (eqb-true missing 0 is)
counted_if false missing lines is (absent, rest, whole, count, none) =
    ap (λ l. length l) (whole ∙ ap (λ l. absent ++ l) none ∙ append-nil absent) ∙ count

-- the end tells of as many lines as are missing
counted : (missing : ℕ) (lines : List (List ℕ)) → Tells (end_of missing) lines → length lines ≡ missing
counted missing lines tells = counted_if (missing == 0) missing lines refl tells

told_if : (is_none : Bool) (missing : ℕ) (lines : List (List ℕ)) → (missing == 0) ≡ is_none
    → length lines ≡ missing → Tells (end_if is_none missing) lines
told_if true missing lines is count = empty lines (count ∙ eqb-true missing 0 is)
told_if false missing lines is count = (lines, [], sym (append-nil lines), count, refl)

-- the end tells of any lines, if they are as many as are missing
told : (missing : ℕ) (lines : List (List ℕ)) → length lines ≡ missing → Tells (end_of missing) lines
told missing lines count = told_if (missing == 0) missing lines refl count

-- the end of what is to be written, by itself
apart : (state : State) (written : List Portion) (lines : List (List ℕ)) → StandsFor state written lines
    → (front back : List (List ℕ)) × (lines ≡ front ++ back) × Tells (written ++ state.waiting) front
    × (length back ≡ state.missing)
apart state written lines stands =
    let all = written ++ state.waiting in
    let here = subst (λ l. Tells l lines) (sym (append_assoc written state.waiting (end_of state.missing))) stands in
    let (front, back, parts, before, behind) = split all (end_of state.missing) lines here in
    (front, back, parts, before, counted state.missing back behind)

-- one more line at the end
longer : (lines front back : List (List ℕ)) (line : List ℕ) → lines ≡ front ++ back
    → front ++ (back ++ line ∷ []) ≡ lines ++ line ∷ []
longer lines front back line parts =
    sym (append_assoc front back (line ∷ [])) ∙ ap (λ l. l ++ line ∷ []) (sym parts)

pub put_last : (state : State) (line : Vec ℕ) (written : List Portion) (lines : List (List ℕ))
    → StandsFor state written lines → StandsFor (with_line state line) written (lines ++ line.items ∷ [])
put_last state line written lines stands =
    let (front, back, parts, before, count) = apart state written lines stands in
    let p : Portion = record { missing = state.missing; line = Some line } in
    let last : Tells (p ∷ []) (back ++ line.items ∷ []) = (back, [], refl, count, refl) in
    let all = joined (written ++ state.waiting) (p ∷ []) front (back ++ line.items ∷ []) before last in
    let order = append_assoc written state.waiting (p ∷ [])
    ∙ ap (λ l. written ++ l) (sym (append-nil (state.waiting ++ p ∷ []))) in
    subst (λ l. Tells (written ++ ((state.waiting ++ p ∷ []) ++ [])) l) (longer lines front back line.items parts)
    (subst (λ l. Tells l (front ++ (back ++ line.items ∷ []))) order all)

-- a count that is below the greatest number of its type rises by one
risen : (missing front back more lines : ℕ) → back ≡ missing → more ≡ back + 1 → lines ≡ front + back
    → lines < 2 ^ 64 - 1 → more ≡ min (missing + 1) (2 ^ 64 - 1)
risen missing front back more lines count is parts few =
    let within : missing + 1 ≤ 2 ^ 64 - 1 = omega (arith, count, parts, few) in
    is ∙ ap (λ n. n + 1) count ∙ sym (min-eq_left within)

pub lose_last : (state : State) (line : List ℕ) (written : List Portion) (lines : List (List ℕ))
    → length lines < 2 ^ 64 - 1 → StandsFor state written lines
    → StandsFor (lost state) written (lines ++ line ∷ [])
lose_last state line written lines few stands =
    let (front, back, parts, before, count) = apart state written lines stands in
    let more = back ++ line ∷ [] in
    let missing = min (state.missing + 1) (2 ^ 64 - 1) in
    let lengths = ap (λ l. length l) parts ∙ length-append front back in
    let is = risen state.missing (length front) (length back) (length more) (length lines) count
    (length-append back (line ∷ [])) lengths few in
    let all = joined (written ++ state.waiting) (end_of missing) front more before (told missing more is) in
    subst (λ l. Tells (written ++ (state.waiting ++ end_of missing)) l) (longer lines front back line parts)
    (subst (λ l. Tells l (front ++ more)) (append_assoc written state.waiting (end_of missing)) all)

pub take_first : (before taken after written : List Portion) (lines : List (List ℕ)) → before ≡ taken ++ after
    → Tells (written ++ before) lines → Tells ((written ++ taken) ++ after) lines
take_first before taken after written lines is stands =
    subst (λ l. Tells l lines) (ap (λ l. written ++ l) is ∙ sym (append_assoc written taken after)) stands
