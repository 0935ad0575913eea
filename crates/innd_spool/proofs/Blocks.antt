-- A block has one line that is a dot alone, its last: octets that begin with octets which end as a block does are
-- these, or no block.
use Rattle.std.proofs.Common.{◌≡◌, ◌∙◌, ap, refl, sym, ℕ, suc, ◌+◌, ◌<◌, ◌-◌, Bool, true, false, cond, not, ltb, ◌==◌}
use Rattle.std.proofs.Common.{◌&&◌, List, [], ◌∷◌, ◌++◌, length, length-append, take, Option, Some, None, IsSome}
use Rattle.std.proofs.Common.{append_assoc, ⊎_elim, arith}
use Rattle.std.specs.Prelude.{nat_eq}
use Rattle.std.specs.Option.{option_map}
use Rattle.std.specs.List.{ends_with, position, position_or_len}
use Rattle.std.proofs.lemmas.Bool.{and_parts, both_ways, cases_Bool, cond-true, cond-false, lt-ltb, ltb-true}
use Rattle.std.proofs.lemmas.Bool.Decides.{Decides-eqb}
use Rattle.std.proofs.lemmas.List.{take-append-le}
use Rattle.std.proofs.lemmas.Slice.Eq.{ends_is}
use Rattle.dot_codec.specs.Block.{end_of_block}
use Rattle.dot_codec.specs.Stored.{is_dot, one_octet_longer, parts_between_crlf, stored_text, text_at_end}
use Rattle.dot_codec.specs.Stored.{text_of_parts, unstuffed}
use Rattle.innd_spool.specs.Reads.{is_ended}
use Rattle.innd_spool.specs.Texts.{begins_with_crlf_line, is_cr_before, is_in_wire_format, text_in}
use Rattle.innd_spool.specs.declared.texts.Form.{Form}
use Rattle.innd_spool.specs.declared.texts.Form.TheVariants.{Plain, Wire, ByFirstLine}

-- there is at least one part
parts_some : (octets : List ℕ) → (part : List ℕ) × (parts : List (List ℕ)) ×
    (parts_between_crlf octets ≡ part ∷ parts)
parts_some [] = ([], [], refl)
parts_some (x ∷ []) = (x ∷ [], [], refl)
parts_some (x ∷ y ∷ rest) = either (x == 13 && y == 10) (parts_some (y ∷ rest))
  where
    either : (crlf : Bool) → (part : List ℕ) × (parts : List (List ℕ)) ×
        (parts_between_crlf (y ∷ rest) ≡ part ∷ parts) → (part : List ℕ) × (parts : List (List ℕ)) ×
        (cond crlf ([] ∷ parts_between_crlf rest)
        (one_octet_longer x (parts_between_crlf (y ∷ rest))) ≡ part ∷ parts)
    either true later = ([], parts_between_crlf rest, refl)
    either false later = (x ∷ later.0, later.1, ap (one_octet_longer x) later.2)

longer_seam : (x : ℕ) (octets : List ℕ) (more : List (List ℕ)) →
    one_octet_longer x (parts_between_crlf octets ++ more) ≡ one_octet_longer x (parts_between_crlf octets) ++ more
longer_seam x octets more =
    let some = parts_some octets in
    ap (λ ps. one_octet_longer x (ps ++ more)) some.2 ∙ sym (ap (λ ps. one_octet_longer x ps ++ more) some.2)

and_false : (b : Bool) → (b && false) ≡ false
and_false true = refl
and_false false = refl

-- the parts before a CR LF, and those behind it
parts_seam : (before after : List ℕ) → parts_between_crlf (before ++ 13 ∷ 10 ∷ after) ≡
    parts_between_crlf before ++ parts_between_crlf after
parts_seam [] after = refl
parts_seam (x ∷ []) after =
    cond-false (x == 13 && false) ([] ∷ parts_between_crlf (10 ∷ after))
    (one_octet_longer x (parts_between_crlf (13 ∷ 10 ∷ after))) (and_false (x == 13))
parts_seam (x ∷ y ∷ before) after =
    either (x == 13 && y == 10) (parts_seam before after) (parts_seam (y ∷ before) after)
  where
    either : (crlf : Bool) → parts_between_crlf (before ++ 13 ∷ 10 ∷ after) ≡
        parts_between_crlf before ++ parts_between_crlf after →
        parts_between_crlf (y ∷ (before ++ 13 ∷ 10 ∷ after)) ≡
        parts_between_crlf (y ∷ before) ++ parts_between_crlf after →
        cond crlf ([] ∷ parts_between_crlf (before ++ 13 ∷ 10 ∷ after))
        (one_octet_longer x (parts_between_crlf (y ∷ (before ++ 13 ∷ 10 ∷ after)))) ≡
        cond crlf ([] ∷ parts_between_crlf before) (one_octet_longer x (parts_between_crlf (y ∷ before)))
        ++ parts_between_crlf after
    either true behind next = ap (λ ps. [] ∷ ps) behind
    either false behind next =
        ap (one_octet_longer x) next ∙ longer_seam x (y ∷ before) (parts_between_crlf after)

nothing_after : (parts : List (List ℕ)) (text : List ℕ) → text_at_end parts ≡ Some text → parts ≡ [] ∷ []
nothing_after [] text is = cc
nothing_after ([] ∷ []) text is = refl
nothing_after ([] ∷ next ∷ parts) text is = cc
nothing_after ((x ∷ part) ∷ parts) text is = cc

no_end : (before more : List (List ℕ)) → before ++ (46 ∷ []) ∷ more ≡ [] ∷ [] → ⊥
no_end [] more is = cc
no_end (part ∷ []) more is = cc
no_end (part ∷ next ∷ before) more is = cc

only_some : {A B : Type 0} (f : A → B) (o : Option A) (b : B) → option_map f o ≡ Some b → (a : A) × (o ≡ Some a)
only_some f None b is = cc
only_some f (Some a) b is = (a, refl)

-- if a dot alone is among the lines of a text, nothing is behind it
text_cut : (before more : List (List ℕ)) (text : List ℕ) → text_of_parts (before ++ (46 ∷ []) ∷ more) ≡ Some text →
    more ≡ [] ∷ []
text_cut [] more text is = nothing_after more text is
text_cut (part ∷ before) more text is = ⊎_elim
    (λ dot.
    let rest = before ++ (46 ∷ []) ∷ more in
    let end : text_at_end rest ≡ Some text =
    sym (cond-true (is_dot part) (text_at_end rest)
    (option_map (λ t. unstuffed part ++ 13 ∷ 10 ∷ t) (text_of_parts rest)) dot) ∙ is in
    absurd (no_end before more (nothing_after rest text end)))
    (λ other.
    let rest = before ++ (46 ∷ []) ∷ more in
    let later = only_some (λ (t : List ℕ). unstuffed part ++ 13 ∷ 10 ∷ t) (text_of_parts rest) text
    (sym (cond-false (is_dot part) (text_at_end rest)
    (option_map (λ t. unstuffed part ++ 13 ∷ 10 ∷ t) (text_of_parts rest)) other) ∙ is) in
    text_cut before more later.0 later.1)
    (cases_Bool (is_dot part))

nothing_left : (rest : List ℕ) → parts_between_crlf rest ≡ [] ∷ [] → rest ≡ []
nothing_left [] is = refl
nothing_left (x ∷ []) is = cc
nothing_left (x ∷ y ∷ rest) is = absurd (either (x == 13 && y == 10) is)
  where
    either : (crlf : Bool) → cond crlf ([] ∷ parts_between_crlf rest)
        (one_octet_longer x (parts_between_crlf (y ∷ rest))) ≡ [] ∷ [] → ⊥
    either true same =
        let some = parts_some rest in
        let two : [] ∷ some.0 ∷ some.1 ≡ [] ∷ [] = ap (λ ps. [] ∷ ps) (sym some.2) ∙ same in
        cc
    either false same =
        let some = parts_some (y ∷ rest) in
        let longer : (x ∷ some.0) ∷ some.1 ≡ [] ∷ [] = ap (one_octet_longer x) (sym some.2) ∙ same in
        cc

block_cut : (body rest text : List ℕ) → stored_text ((body ++ 13 ∷ 10 ∷ end_of_block) ++ rest) ≡ Some text → rest ≡ []
block_cut body rest text is =
    let all : (body ++ 13 ∷ 10 ∷ end_of_block) ++ rest ≡ body ++ 13 ∷ 10 ∷ 46 ∷ 13 ∷ 10 ∷ rest =
    append_assoc body (13 ∷ 10 ∷ end_of_block) rest in
    let parts : parts_between_crlf (body ++ 13 ∷ 10 ∷ 46 ∷ 13 ∷ 10 ∷ rest) ≡
    parts_between_crlf body ++ (46 ∷ []) ∷ parts_between_crlf rest = parts_seam body (46 ∷ 13 ∷ 10 ∷ rest) in
    nothing_left rest (text_cut (parts_between_crlf body) (parts_between_crlf rest) text
    (sym (ap text_of_parts (ap parts_between_crlf all ∙ parts)) ∙ is))

-- the first octet of a kind in front is the first of all
first_seam : (p : ℕ → Bool) (front rest : List ℕ) → position_or_len p front < length front →
    position_or_len p (front ++ rest) ≡ position_or_len p front
first_seam p [] rest below = absurd (omega arith)
first_seam p (x ∷ front) rest below = either (p x) below (first_seam p front rest)
  where
    either : (here : Bool) → cond (not here) (1 + position_or_len p front) 0 < suc (length front) →
        (position_or_len p front < length front → position_or_len p (front ++ rest) ≡ position_or_len p front) →
        cond (not here) (1 + position_or_len p (front ++ rest)) 0 ≡
        cond (not here) (1 + position_or_len p front) 0
    either true less later = refl
    either false less later = ap (λ n. 1 + n) (later (omega arith))

crlf_line_seam : (front rest : List ℕ) → begins_with_crlf_line front ≡ true →
    begins_with_crlf_line (front ++ rest) ≡ true
crlf_line_seam front rest is = ⊎_elim
    (λ within.
    let at = position_or_len (λ octet. octet == 10) front in
    let below : at < length front = ltb-true _ _ within in
    let here : position (λ octet. octet == 10) front ≡ Some at = cond-true _ (Some at) None within in
    let same : position_or_len (λ octet. octet == 10) (front ++ rest) ≡ at =
    first_seam (λ octet. octet == 10) front rest below in
    let longer : at < length (front ++ rest) = omega (arith, below, length-append front rest) in
    let there : position (λ octet. octet == 10) (front ++ rest) ≡ Some at =
    ap (λ n. cond (ltb n (length (front ++ rest))) (Some n) None) same
    ∙ cond-true _ (Some at) None (lt-ltb _ _ longer) in
    let line : take at (front ++ rest) ≡ take at front = take-append-le at front rest (omega arith) in
    ap (is_cr_before (front ++ rest)) there
    ∙ (ap (λ l. ends_with nat_eq l (13 ∷ [])) line ∙ (sym (ap (is_cr_before front) here) ∙ is)))
    (λ none.
    let here : position (λ octet. octet == 10) front ≡ None = cond-false _ (Some _) None none in
    absurd (both_ways (begins_with_crlf_line front) (ap (is_cr_before front) here) is))
    (cases_Bool (ltb (position_or_len (λ octet. octet == 10) front) (length front)))

wire_seam : (form : Form) (front rest : List ℕ) → is_in_wire_format form front ≡ true →
    is_in_wire_format form (front ++ rest) ≡ true
wire_seam Plain front rest is = is
wire_seam Wire front rest is = refl
wire_seam ByFirstLine front rest is = crlf_line_seam front rest is

some_of : {X : Type 0} (o : Option X) → IsSome o → (x : X) × (o ≡ Some x)
some_of None some = absurd (both_ways false refl some)
some_of (Some x) some = (x, refl)

-- octets that have a text, and that octets begin which end as a block does, are these
pub nothing_behind : (form : Form) (front rest : List ℕ) → is_ended form front ≡ true →
    IsSome (text_in form (front ++ rest)) → rest ≡ []
nothing_behind form front rest is has =
    let both = and_parts (ends_with nat_eq front (13 ∷ 10 ∷ end_of_block)) (is_in_wire_format form front) is in
    let end = (ends_is Decides-eqb front (13 ∷ 10 ∷ end_of_block) _ refl).0 both.0 in
    let body = take (length front - length (13 ∷ 10 ∷ end_of_block)) front in
    let some = some_of (text_in form (front ++ rest)) has in
    let stored : stored_text (front ++ rest) ≡ Some some.0 =
    sym (cond-true (is_in_wire_format form (front ++ rest)) (stored_text (front ++ rest)) (Some (front ++ rest))
    (wire_seam form front rest both.1)) ∙ some.1 in
    block_cut body rest some.0 (sym (ap (λ l. stored_text (l ++ rest)) end) ∙ stored)
