-- The table of values, and the uses that it was made from.
use Rattle.std.proofs.Common.{suc, zero, ◌≡◌, ◌==◌, ◌&&◌, ◌+◌, ◌<◌, ℕ, Bool, true, false, List, [], ◌∷◌, ◌++◌, length}
use Rattle.std.proofs.Common.{map, take, get_or, cond, Option, None, Some, unwrap_or, refl, ap, ◌∙◌, sym, arith, inl}
use Rattle.std.proofs.Common.{inr, reverse}
use Rattle.std.specs.Option.{option_map}
use Rattle.std.specs.Ordering.{nat_cmp, is_eq}
use Rattle.std.specs.Cmp.{tied_then, nat_cmp_is}
use Rattle.std.specs.declared.cmp.Ordering.TheVariants.{Less, Equal, Greater}
use Rattle.std.proofs.lemmas.Bool.{cases_order, eq-eqb, ne_eqb}
use Rattle.feed_conf.specs.Reading.{Use}
use Rattle.feed_conf.specs.Values.{Value}
use Rattle.feed_conf.specs.Settings.{block_around, later, value_at, last_value, path_within, value_along}
use Rattle.feed_conf.specs.ValueView.{value_view}
use Rattle.feed_conf.specs.TableView.{index_cmp}
use Rattle.feed_conf.specs.declared.value.Value.{Value as Held}
use Rattle.feed_conf.specs.declared.reader.Use.{Use as HeldUse}
use Rattle.feed_conf.specs.Keys.{row_of}
use Rattle.feed_conf.specs.ReaderView.{use_view}
use Rattle.std.specs.BTreeMap.{BTreeMap, get}
use Rattle.std.proofs.lemmas.List.{take_more, map-append, map_push, reverse-append}
use Rattle.std.specs.List.{find}
use Rattle.feed_conf.specs.Settings.{is_in_file, last_line}
use Rattle.feed_conf.specs.declared.key.SettingKey.{SettingKey}

later-assoc : (a b c : Option Value) → later (later a b) c ≡ later a (later b c)
later-assoc None b c = refl
later-assoc (Some v) b c = refl

later-none : (a : Option Value) → later a None ≡ a
later-none None = refl
later-none (Some v) = refl

pub last-push : (block index : ℕ) (uses : List Use) (new : Use)
    → last_value block index (uses ++ new ∷ []) ≡ later (value_at block index new) (last_value block index uses)
last-push block index [] new = sym (later-none (value_at block index new))
last-push block index (first ∷ uses) new =
    ap (λ z. later z (value_at block index first)) (last-push block index uses new)
    ∙ later-assoc (value_at block index new) (last_value block index uses) (value_at block index first)

-- one more use
pub table-step : (b : Bool) (value : Held) (old : Option Held) (last : Option Value)
    → option_map value_view old ≡ last →
    option_map value_view (cond b (Some value) old) ≡ later (cond b (Some (value_view value)) None) last
table-step true value old last h = refl
table-step false value old last h = h

-- the value that counts, of the two that a reader holds
pub view-or : (o : Option Held) (d : Held)
    → unwrap_or (option_map value_view o) (value_view d) ≡ value_view (unwrap_or o d)
view-or None d = refl
view-or (Some v) d = refl

-- no block is around the scope of the file
scope-path : (most : ℕ) (outer : List ℕ) → path_within most outer 0 ≡ []
scope-path zero outer = refl
scope-path (suc most) outer = refl

pub along-scope : (index : ℕ) (uses : List Use) (outer : List ℕ) (most at : ℕ) → at ≡ 0
    → value_along index uses (path_within most outer at) ≡ last_value 0 index uses
along-scope index uses outer most at e = rw e (ap (value_along index uses) (scope-path most outer))

-- a block that has a value
pub along-some : (index : ℕ) (uses : List Use) (outer : List ℕ) (left most at : ℕ) (value : Value) → left ≡ suc most
    → (at ≡ 0 → ⊥) → Some value ≡ last_value at index uses
    → value_along index uses (path_within left outer at) ≡ Some value
along-some index uses outer left most zero value e some h = absurd (some refl)
along-some index uses outer left most (suc at) value e some h =
    rw e (ap (λ z. later z (value_along index uses (path_within most outer (block_around outer (suc at))))) (sym h))

-- a block that has none: the next one further out counts
pub along-none : (index : ℕ) (uses : List Use) (outer : List ℕ) (left most at : ℕ) → left ≡ suc most → (at ≡ 0 → ⊥)
    → None ≡ last_value at index uses
    → value_along index uses (path_within left outer at) ≡ value_along index uses
    (path_within most outer (block_around outer at))
along-none index uses outer left most zero e some h = absurd (some refl)
along-none index uses outer left most (suc at) e some h =
    rw e (ap (λ z. later z (value_along index uses (path_within most outer (block_around outer (suc at))))) (sym h))

is_eq-nat : (x y : ℕ) → is_eq (nat_cmp x y) ≡ (x == y)
is_eq-nat x y =
    elim (cases_order x y) [
      | inl e ↦ ap is_eq (sym (nat_cmp_is x y Equal e)) ∙ sym (eq-eqb x y e)
      | inr h ↦ elim h [
        | inl l ↦ ap is_eq (sym (nat_cmp_is x y Less l)) ∙ sym (ne_eqb x y (λ e. absurd (omega arith)))
        | inr g ↦ ap is_eq (sym (nat_cmp_is x y Greater g)) ∙ sym (ne_eqb x y (λ e. absurd (omega arith)))
      ]
    ]

-- two equal indexes in a table
pub same-index : (block index other_block other_index : ℕ)
    → is_eq (index_cmp (block, index) (other_block, other_index)) ≡ (block == other_block && index == other_index)
same-index block index other_block other_index =
    sym (tied_then (nat_cmp block other_block) (nat_cmp index other_index))
    ∙ ap (λ z. z && is_eq (nat_cmp index other_index)) (is_eq-nat block other_block)
    ∙ ap (λ z. (block == other_block) && z) (is_eq-nat index other_index)

-- the table after one more use
pub table-more : (values new : BTreeMap (ℕ × ℕ) Held) (uses : List HeldUse) (i : ℕ) (d : HeldUse) (at : ℕ)
    → i < length uses → at ≡ (row_of (get_or uses i d).key).index →
    ((q : ℕ × ℕ)
    → get index_cmp new q ≡ cond (is_eq (index_cmp ((get_or uses i d).block, at) q)) (Some (get_or uses i d).value)
    (get index_cmp values q)) →
    ((block index : ℕ)
    → option_map value_view (get index_cmp values (block, index)) ≡ last_value block index
    (map use_view (take i uses))) →
    (block index : ℕ)
    → option_map value_view (get index_cmp new (block, index)) ≡ last_value block index
    (map use_view (take (i + 1) uses))
table-more values new uses i d at h k updates inv block index =
    let held = get_or uses i d in
    let before = get index_cmp values (block, index) in
    let here : get index_cmp new (block, index) ≡ cond (held.block == block && (row_of held.key).index == index)
    (Some held.value) before =
    updates (block, index)
    ∙ ap (λ z. cond z (Some held.value) before)
    (same-index held.block at block index ∙ ap (λ z. held.block == block && z == index) k) in
    let more : map use_view (take (i + 1) uses) ≡ map use_view (take i uses) ++ use_view held ∷ [] =
    ap (map use_view) (take_more uses i d h) ∙ map-append use_view (take i uses) (held ∷ []) in
    ap (option_map value_view) here
    ∙ table-step (held.block == block && (row_of held.key).index == index) held.value before
    (last_value block index (map use_view (take i uses))) (inv block index)
    ∙ sym (ap (last_value block index) more ∙ last-push block index (map use_view (take i uses)) (use_view held))

map-reverse : {X Y : Type 0} (f : X → Y) (xs : List X) → map f (reverse xs) ≡ reverse (map f xs)
map-reverse f [] = refl
map-reverse f (x ∷ xs) =
    ap (map f) (reverse-append (x ∷ []) xs) ∙ map_push f (reverse xs) x ∙ ap (λ l. l ++ f x ∷ []) (map-reverse f xs)
    ∙ sym (reverse-append (f x ∷ []) (map f xs))

found-step : {X Y : Type 0} (b : Bool) (f : X → Y) (x : X) (found : Option Y) (rest : Option X)
    → found ≡ option_map f rest → cond b (Some (f x)) found ≡ option_map f (cond b (Some x) rest)
found-step true f x found rest h = refl
found-step false f x found rest h = h

find-mapped : {X Y : Type 0} (f : X → Y) (test : Y → Bool) (xs : List X)
    → find test (map f xs) ≡ option_map f (find (λ x. test (f x)) xs)
find-mapped f test [] = refl
find-mapped f test (x ∷ xs) =
    found-step (test (f x)) f x (find test (map f xs)) (find (λ y. test (f y)) xs) (find-mapped f test xs)

-- the last use in the scope of the file, of the uses as they are held
pub last-held : (key : SettingKey) (uses : List HeldUse) (last : Option HeldUse)
    → last ≡ find (λ held. is_in_file key (use_view held)) (reverse uses)
    → last_line key (map use_view uses) ≡
    unwrap_or (option_map (λ (entry : Use). entry.line) (option_map use_view last)) 0
last-held key uses last h =
    ap (λ us. unwrap_or (option_map (λ (entry : Use). entry.line) (find (is_in_file key) us)) 0)
    (sym (map-reverse use_view uses))
    ∙ ap (λ o. unwrap_or (option_map (λ (entry : Use). entry.line) o) 0)
    (find-mapped use_view (is_in_file key) (reverse uses) ∙ ap (option_map use_view) (sym h))
