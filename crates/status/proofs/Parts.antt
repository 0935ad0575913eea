-- Texts that are written part by part.
use Rattle.std.proofs.Common.{◌≡◌, ℕ, List, [], ◌∷◌, ◌++◌, length, take, drop, get_or}
use Rattle.std.proofs.Common.{Option, Result, Ok, Err, OnErr, OnOk}
use Rattle.std.proofs.Common.{arith, refl, sym, ap, ◌∙◌, subst, append_assoc, append-nil, take-append-drop, ◌<◌, ◌+◌}
use Rattle.std.proofs.lemmas.Grind.{flat_map-append}
use Rattle.std.proofs.lemmas.List.{take_more}
use Rattle.std.specs.Prelude.{flat_map}
use Rattle.std.proofs.KnownBytes.{Appends-nil, Appends-trans, Appends-kept}
use Rattle.std.specs.Io.KnownBytes.{Appends, Keeps, WriteAppends}
use Rattle.status.specs.Prefixes.{AppendsPrefix}

-- nothing of a text is a prefix of it
pub none_of : (a : Option (List ℕ)) (text : List ℕ) → AppendsPrefix a a text
none_of a text = record { prefix = []; rest = text; whole = refl; out = Appends-nil a }

-- a prefix of the first part is a prefix of the whole
pub prefix_before : (a b : Option (List ℕ)) (first rest : List ℕ) → AppendsPrefix a b first
    → AppendsPrefix a b (first ++ rest)
prefix_before a b first rest h = record {
  prefix = h.prefix;
  rest = h.rest ++ rest;
  whole = ap (λ l. l ++ rest) h.whole ∙ append_assoc h.prefix h.rest rest;
  out = h.out;
}

-- the first part, and a prefix of the rest
pub prefix_after : (a b c : Option (List ℕ)) (first rest : List ℕ) → Appends a b first → AppendsPrefix b c rest
    → AppendsPrefix a c (first ++ rest)
prefix_after a b c first rest p h = record {
  prefix = first ++ h.prefix;
  rest = h.rest;
  whole = ap (λ l. first ++ l) h.whole ∙ sym (append_assoc first h.prefix h.rest);
  out = Appends-trans a b c first h.prefix p h.out;
}

-- the whole is written by its parts
pub both : (a b c : Option (List ℕ)) (first rest : List ℕ) → Appends a b first → Appends b c rest
    → Appends a c (first ++ rest)
both a b c first rest p q = Appends-trans a b c first rest p q

-- so much of a text was written that this is its rest
pub record Leaves (old new : Option (List ℕ)) (text rest : List ℕ) : Type 0 where
  pub prefix : List ℕ
  pub whole : text ≡ prefix ++ rest
  pub out : Appends old new prefix

pub at_start : (a : Option (List ℕ)) (text : List ℕ) → Leaves a a text text
at_start a text = record { prefix = []; whole = refl; out = Appends-nil a }

-- a write took some of the rest
pub leaves_less : (a b c : Option (List ℕ)) (text rest : List ℕ) (n : ℕ) → Leaves a b text rest
    → Appends b c (take n rest)
    → Leaves a c text (drop n rest)
leaves_less a b c text rest n h p = record {
  prefix = h.prefix ++ take n rest;
  whole =
      h.whole ∙ ap (λ l. h.prefix ++ l) (sym (take-append-drop n rest))
      ∙ sym (append_assoc h.prefix (take n rest) (drop n rest));
  out = Appends-trans a b c h.prefix (take n rest) h.out p;
}

pub at_end : (a b : Option (List ℕ)) (text rest : List ℕ) → Leaves a b text rest → length rest ≡ 0
    → Appends a b text
at_end a b text [] h e = subst (λ l. Appends a b l) (sym (h.whole ∙ append-nil h.prefix)) h.out
at_end a b text (x ∷ xs) h e = absurd (omega (arith, e))

pub rest_left : (a b : Option (List ℕ)) (text rest : List ℕ) → Leaves a b text rest → AppendsPrefix a b text
rest_left a b text rest h = record { prefix = h.prefix; rest = rest; whole = h.whole; out = h.out }

-- a prefix of the rest came out
pub leaves_prefix : (a b c : Option (List ℕ)) (text rest : List ℕ) → Leaves a b text rest → AppendsPrefix b c rest
    → AppendsPrefix a c text
leaves_prefix a b c text rest h p = record {
  prefix = h.prefix ++ p.prefix;
  rest = p.rest;
  whole = h.whole ∙ ap (λ l. h.prefix ++ l) p.whole ∙ sym (append_assoc h.prefix p.prefix p.rest);
  out = Appends-trans a b c h.prefix p.prefix h.out p.out;
}

-- what a writer kept is no octet more
pub kept_none : (a b : Option (List ℕ)) → Keeps a b → Appends a b []
kept_none a b p = Appends-kept a a b [] (Appends-nil a) p

-- what came out of one write is a prefix
pub write_prefix : {E : Type 0} (a b : Option (List ℕ)) (text : List ℕ) (r : Result ℕ E) → WriteAppends a b r text
    → AppendsPrefix a b text
write_prefix a b text (Ok n) p =
    record { prefix = take n text; rest = drop n text; whole = sym (take-append-drop n text); out = p }
write_prefix a b text (Err e) p = record { prefix = []; rest = text; whole = refl; out = kept_none a b p }

pub on_err : {A E P : Type 0} (r : Result A E) → P → OnErr r P
on_err (Ok x) p = tt
on_err (Err e) p = p

pub on_err_map : {A E P Q : Type 0} (r : Result A E) → (P → Q) → OnErr r P → OnErr r Q
on_err_map (Ok x) f p = tt
on_err_map (Err e) f p = f p

pub on_ok_map : {A E P Q : Type 0} (r : Result A E) → (P → Q) → OnOk r P → OnOk r Q
on_ok_map (Ok x) f p = f p
on_ok_map (Err e) f p = tt

-- the lines so far, and the next one
pub next_text : {X : Type 0} (f : X → List ℕ) (xs : List X) (i : ℕ) (d : X) → i < length xs
    → flat_map f (take (i + 1) xs) ≡ flat_map f (take i xs) ++ f (get_or xs i d)
next_text f xs i d h =
    ap (flat_map f) (take_more xs i d h) ∙ flat_map-append f (take i xs) (get_or xs i d ∷ [])
    ∙ ap (λ l. flat_map f (take i xs) ++ l) (append-nil (f (get_or xs i d)))

-- the lines so far came out, and then the next one
pub next_whole : {X : Type 0} (a b c : Option (List ℕ)) (f : X → List ℕ) (xs : List X) (i : ℕ) (x : X) → i < length xs
    → x ≡ get_or xs i x → Appends a b (flat_map f (take i xs)) → Appends b c (f x)
    → Appends a c (flat_map f (take (i + 1) xs))
next_whole a b c f xs i x h e p q =
    subst (Appends a c) (ap (λ y. flat_map f (take i xs) ++ f y) e ∙ sym (next_text f xs i x h))
    (both a b c (flat_map f (take i xs)) (f x) p q)

-- the lines so far came out, and then a prefix of the next one
pub next_prefix : {X : Type 0} (a b c : Option (List ℕ)) (f : X → List ℕ) (xs : List X) (i : ℕ) (x : X) → i < length xs
    → x ≡ get_or xs i x → Appends a b (flat_map f (take i xs)) → AppendsPrefix b c (f x)
    → AppendsPrefix a c (flat_map f xs)
next_prefix a b c f xs i x h e p q =
    let rest = flat_map f (drop (i + 1) xs) in
    let all : flat_map f xs ≡ flat_map f (take (i + 1) xs) ++ rest =
    ap (flat_map f) (sym (take-append-drop (i + 1) xs)) ∙ flat_map-append f (take (i + 1) xs) (drop (i + 1) xs) in
    let next : flat_map f (take (i + 1) xs) ≡ flat_map f (take i xs) ++ f x =
    next_text f xs i x h ∙ ap (λ y. flat_map f (take i xs) ++ f y) (sym e) in
    subst (AppendsPrefix a c) (sym (all ∙ ap (λ l. l ++ rest) next))
    (prefix_before a c (flat_map f (take i xs) ++ f x) rest (prefix_after a b c (flat_map f (take i xs)) (f x) p q))
