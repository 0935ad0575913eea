-- Texts that are kept.
use Rattle.std.proofs.Common.{◌≡◌, ◌≤◌, ◌<◌, ℕ, zero, suc, ◌+◌, ◌-◌, Bool, true, false, List, [], ◌∷◌}
use Rattle.std.proofs.Common.{length, take}
use Rattle.std.proofs.Common.{Option, Some, None, refl, sym, ap, ◌∙◌, subst, arith}
use Rattle.std.specs.Prelude.{cond, nat_le, if◌then◌else◌, option_map, slice_get}
use Rattle.std.specs.Global.{Vec}
use Rattle.lru.specs.LruCache.{LruCache, displaced, lru_cache, put_entries}
use Rattle.lru.proofs.CallerLemmas.{Contains-lookup_entry}
use Rattle.std.specs.Map.{lookup, lookup_entry, remove_entry}
use Rattle.std.specs.Option.{option_map_or}
use Rattle.std.specs.Str.{bytes_eq}
use Rattle.std.specs.Cmp.Lexicographic.{same_text}
use Rattle.std.proofs.lemmas.Bool.{le-leb, leb-true, lt-leb}
use Rattle.std.proofs.lemmas.List.{take-map, take_all, length-map}
use Rattle.connections.specs.declared.kept_texts.KeptText.{KeptText}
use Rattle.connections.specs.Kept.{by_token, first_within, kept_with, latest_with, octets_in, octets_of}

none-some : {X : Type 0} {x : X} → None ≡ Some x → ⊥
none-some same = cc

some-same : {X : Type 0} {x y : X} → Some x ≡ Some y → x ≡ y
some-same same = cc

-- keys as octets

abbrev named : Vec ℕ × KeptText → List ℕ × KeptText
named one = (one.0.items, one.1)

pub lookup-by_token : (token : List ℕ) (kept : List (Vec ℕ × KeptText))
    → lookup (bytes_eq token) (by_token kept) ≡ lookup (λ key. bytes_eq token key.items) kept
lookup-by_token token [] = refl
lookup-by_token token (one ∷ rest) = ap (cond (bytes_eq token one.0.items) (Some one.1)) (lookup-by_token token rest)

remove-by_token : (token : List ℕ) (kept : List (Vec ℕ × KeptText))
    → by_token (remove_entry (λ key. bytes_eq token key.items) kept) ≡ remove_entry (bytes_eq token) (by_token kept)
remove-by_token token [] = refl
remove-by_token token (one ∷ rest) = either (bytes_eq token one.0.items) (remove-by_token token rest)
  where
    either : (b : Bool)
        → by_token (remove_entry (λ key. bytes_eq token key.items) rest)
        ≡ remove_entry (bytes_eq token) (by_token rest)
        → by_token (cond b rest (one ∷ remove_entry (λ key. bytes_eq token key.items) rest))
        ≡ cond b (by_token rest) ((one.0.items, one.1) ∷ remove_entry (bytes_eq token) (by_token rest))
    either true less = refl
    either false less = ap (λ r. (one.0.items, one.1) ∷ r) less

octets-by_token : (kept : List (Vec ℕ × KeptText)) → octets_in (by_token kept) ≡ octets_in kept
octets-by_token [] = refl
octets-by_token (one ∷ rest) = ap (λ n. length one.1.text + n) (octets-by_token rest)

-- a list without its last entries

if_within : {X : Type 0} {ys zs : List X} (most n : ℕ) → n ≤ most → ys ≡ zs
    → (if nat_le n most then ys else []) ≡ zs
if_within most n h same = rw (le-leb n most h) same

same_if : {X : Type 0} {ys zs : List X} (b : Bool) → (b ≡ true → ys ≡ zs)
    → (if b then ys else []) ≡ (if b then zs else [])
same_if true same = same refl
same_if false same = refl

module _ {K : Type 0} where
  octets-take : (n : ℕ) (kept : List (K × KeptText)) → length kept ≤ n + 1
      → octets_in (take n kept) + octets_of (slice_get kept n) ≡ octets_in kept
  octets-take zero [] h = refl
  octets-take (suc n) [] h = refl
  octets-take zero (one ∷ []) h = omega arith
  octets-take zero (one ∷ other ∷ rest) h = absurd (omega arith)
  octets-take (suc n) (one ∷ rest) h = omega (arith, octets-take n rest (omega arith))

  -- what has at most so many octets stays whole
  first_within-all : (most : ℕ) (kept : List (K × KeptText)) → octets_in kept ≤ most → first_within most kept ≡ kept
  unfolding first_within
  first_within-all most [] h = refl
  first_within-all most (one ∷ rest) h =
      if_within most (length one.1.text) (omega arith) (ap (λ r. one ∷ r)
      (first_within-all (most - length one.1.text) rest (omega arith)))

  -- an entry that is the last of too many goes
  first_within-last : (most n : ℕ) (kept : List (K × KeptText)) → n + 1 ≡ length kept → most < octets_in kept
      → first_within most (take n kept) ≡ first_within most kept
  unfolding first_within
  first_within-last most n [] same h = absurd (omega (arith, same))
  first_within-last most zero (one ∷ []) same h = rw (lt-leb (length one.1.text) most (omega arith)) refl
  first_within-last most zero (one ∷ other ∷ rest) same h = absurd (omega (arith, same))
  first_within-last most (suc n) (one ∷ rest) same h =
      same_if (nat_le (length one.1.text) most) (λ is. ap (λ r. one ∷ r)
      (first_within-last (most - length one.1.text) n rest (omega (arith, same))
      (omega (arith, leb-true (length one.1.text) most is))))

  slice_get-last : (n : ℕ) (kept : List (K × KeptText)) → n + 1 ≡ length kept → slice_get kept n ≡ None → ⊥
  slice_get-last n [] same h = absurd (omega (arith, same))
  slice_get-last zero (one ∷ rest) same h = cc
  slice_get-last (suc n) (one ∷ rest) same h = slice_get-last n rest (omega (arith, same)) h

  some_octets : (kept : List (K × KeptText)) → 0 < octets_in kept → (length kept - 1) + 1 ≡ length kept
  some_octets [] h = absurd (omega (arith, h))
  some_octets (one ∷ rest) h = omega arith

-- the oldest text goes
pub pops : (kept : List (Vec ℕ × KeptText)) (key : Vec ℕ) (oldest : KeptText)
    → Some (key, oldest) ≡ slice_get kept (length kept - 1)
    → octets_in (take (length kept - 1) kept) + length oldest.text ≡ octets_in kept
pops kept key oldest is =
    subst (λ o. octets_in (take (length kept - 1) kept) + octets_of o ≡ octets_in kept) (sym is)
    (octets-take (length kept - 1) kept (omega arith))

pub pops-some : (most : ℕ) (kept : List (Vec ℕ × KeptText)) → most < octets_in kept
    → None ≡ slice_get kept (length kept - 1) → ⊥
pops-some most kept h none = slice_get-last (length kept - 1) kept (some_octets kept (omega (arith, h))) (sym none)

pub pops-within : (most : ℕ) (kept : List (Vec ℕ × KeptText)) → most < octets_in kept
    → first_within most (by_token (take (length kept - 1) kept)) ≡ first_within most (by_token kept)
pops-within most kept h =
    ap (first_within most) (sym (take-map named (length kept - 1) kept))
    ∙ first_within-last most (length kept - 1) (by_token kept)
    (some_octets kept (omega (arith, h)) ∙ sym (length-map kept named))
    (subst (λ n. most < n) (sym (octets-by_token kept)) h)

pub all-within : (most : ℕ) (kept : List (Vec ℕ × KeptText)) → octets_in kept ≤ most
    → by_token kept ≡ first_within most (by_token kept)
all-within most kept h =
    sym (first_within-all most (by_token kept) (subst (λ n. n ≤ most) (sym (octets-by_token kept)) h))

-- a text is added

module _ {K : Type 0} (test : K → Bool) where
  octets-remove : (kept : List (K × KeptText)) (one : K × KeptText) → lookup_entry test kept ≡ Some one
      → octets_in (remove_entry test kept) + length one.1.text ≡ octets_in kept
  octets-remove [] one is = absurd (none-some is)
  octets-remove (other ∷ rest) one is = either (test other.0) is (octets-remove rest one)
    where
      either : (b : Bool) → cond b (Some other) (lookup_entry test rest) ≡ Some one
          → (lookup_entry test rest ≡ Some one
          → octets_in (remove_entry test rest) + length one.1.text ≡ octets_in rest)
          → octets_in (cond b rest (other ∷ remove_entry test rest)) + length one.1.text
          ≡ length other.1.text + octets_in rest
      either true is on = subst (λ e. octets_in rest + length e.1.text ≡ length other.1.text + octets_in rest)
          (some-same is) (omega arith)
      either false is on = omega (arith, on is)

  length-remove : (kept : List (K × KeptText)) (one : K × KeptText) → lookup_entry test kept ≡ Some one
      → length (remove_entry test kept) + 1 ≡ length kept
  length-remove [] one is = absurd (none-some is)
  length-remove (other ∷ rest) one is = either (test other.0) is (length-remove rest one)
    where
      either : (b : Bool) → cond b (Some other) (lookup_entry test rest) ≡ Some one
          → (lookup_entry test rest ≡ Some one → length (remove_entry test rest) + 1 ≡ length rest)
          → length (cond b rest (other ∷ remove_entry test rest)) + 1 ≡ suc (length rest)
      either true is on = omega arith
      either false is on = omega (arith, on is)

  remove-none : (kept : List (K × KeptText)) → lookup_entry test kept ≡ None → remove_entry test kept ≡ kept
  remove-none [] is = refl
  remove-none (other ∷ rest) is = either (test other.0) is (remove-none rest)
    where
      either : (b : Bool) → cond b (Some other) (lookup_entry test rest) ≡ None
          → (lookup_entry test rest ≡ None → remove_entry test rest ≡ rest)
          → cond b rest (other ∷ remove_entry test rest) ≡ other ∷ rest
      either true is on = absurd (none-some (sym is))
      either false is on = ap (λ r. other ∷ r) (on is)

  lookup-entry : (kept : List (K × KeptText)) → lookup test kept ≡ option_map (λ e. e.1) (lookup_entry test kept)
  lookup-entry [] = refl
  lookup-entry (other ∷ rest) = either (test other.0) (lookup-entry rest)
    where
      either : (b : Bool) → lookup test rest ≡ option_map (λ e. e.1) (lookup_entry test rest)
          → cond b (Some other.1) (lookup test rest)
          ≡ option_map (λ e. e.1) (cond b (Some other) (lookup_entry test rest))
      either true on = refl
      either false on = on

module _ (cache : LruCache (Vec ℕ) KeptText) (key : Vec ℕ) (one : KeptText) where
  abbrev is_key : Vec ℕ → Bool
  is_key other = bytes_eq key.items other.items

  abbrev Entry : Type 0
  Entry = Vec ℕ × KeptText

  entries-by : (found : Option Entry) → lookup_entry is_key cache.entries ≡ found → length cache.entries ≤ 4096
      → cache.cap ≡ 4096
      → by_token (option_map_or (λ e. (e.0, one) ∷ remove_entry is_key cache.entries) found
      ((key, one) ∷ take (cache.cap - 1) cache.entries))
      ≡ latest_with 4096 key.items one (by_token cache.entries)
  unfolding latest_with
  entries-by None is few most =
      let less : cache.cap - 1 ≡ 4095 = omega (arith, most) in
      ap (λ rest. (key.items, one) ∷ rest) (
      sym (take-map named (cache.cap - 1) cache.entries)
      ∙ ap (λ n. take n (by_token cache.entries)) less
      ∙ ap (λ rest. take 4095 rest) (sym (ap by_token (remove-none is_key cache.entries is))
      ∙ remove-by_token key.items cache.entries)
      )
  entries-by (Some e) is few most =
      let rest = remove_entry is_key cache.entries in
      let short : length (by_token rest) ≤ 4095 = omega (
        arith,
        length-map rest named,
        length-remove is_key cache.entries e is,
        few,
      ) in
      ap (λ items. (items, one) ∷ by_token rest)
      (sym (same_text key.items e.0.items (sym (Contains-lookup_entry is_key cache.entries e is).1)))
      ∙ ap (λ rest. (key.items, one) ∷ rest) (sym (take_all 4095 (by_token rest) short)
      ∙ ap (λ rest. take 4095 rest) (remove-by_token key.items cache.entries))

  octets-by : (found : Option Entry) → lookup_entry is_key cache.entries ≡ found → length cache.entries ≤ 4096
      → cache.cap ≡ 4096
      → octets_in (option_map_or (λ e. (e.0, one) ∷ remove_entry is_key cache.entries) found
      ((key, one) ∷ take (cache.cap - 1) cache.entries))
      + octets_of (option_map_or (λ old. Some (key, old)) (option_map (λ e. e.1) found)
      (slice_get cache.entries (cache.cap - 1)))
      ≡ octets_in cache.entries + length one.text
  octets-by None is few most = omega (arith, octets-take (cache.cap - 1) cache.entries (omega (arith, few, most)))
  octets-by (Some e) is few most = omega (arith, octets-remove is_key cache.entries e is)

  pub entries-put : length cache.entries ≤ 4096 → cache.cap ≡ 4096
      → by_token (put_entries (λ one other. bytes_eq one.items other.items) cache key one)
      ≡ latest_with 4096 key.items one (by_token cache.entries)
  entries-put few most = entries-by (lookup_entry is_key cache.entries) refl few most

  pub octets-put : length cache.entries ≤ 4096 → cache.cap ≡ 4096
      → octets_in (put_entries (λ one other. bytes_eq one.items other.items) cache key one)
      + octets_of (displaced (λ one other. bytes_eq one.items other.items) cache key one)
      ≡ octets_in cache.entries + length one.text
  octets-put few most =
      ap (λ found. octets_in (put_entries (λ one other. bytes_eq one.items other.items) cache key one)
      + octets_of (option_map_or (λ old. Some (key, old)) found (slice_get cache.entries (cache.cap - 1))))
      (lookup-entry is_key cache.entries)
      ∙ octets-by (lookup_entry is_key cache.entries) refl few most

  -- what is left, if this many octets were there, and this pair went
  pub sum-put : (octets : ℕ) (gone : Option (Vec ℕ × KeptText)) (new : LruCache (Vec ℕ) KeptText)
      → length cache.entries ≤ cache.cap → cache.cap ≡ 4096 → octets ≡ octets_in cache.entries
      → new ≡ lru_cache (put_entries (λ one other. bytes_eq one.items other.items) cache key one) cache.cap
      → gone ≡ displaced (λ one other. bytes_eq one.items other.items) cache key one
      → octets_in new.entries + octets_of gone ≡ octets + length one.text
  sum-put octets gone new few most sum is went =
      ap (λ t. octets_in t.entries + octets_of gone) is
      ∙ ap (λ o. octets_in (put_entries (λ one other. bytes_eq one.items other.items) cache key one) + octets_of o)
      went
      ∙ octets-put (subst (λ n. length cache.entries ≤ n) most few) most
      ∙ ap (λ n. n + length one.text) (sym sum)

pub found : (token read : List ℕ) (kept : List (Vec ℕ × KeptText)) (answer : Option KeptText) → read ≡ token
    → answer ≡ lookup (λ key. bytes_eq read key.items) kept → lookup (bytes_eq token) (by_token kept) ≡ answer
found token read kept answer same is =
    lookup-by_token token kept ∙ ap (λ t. lookup (λ key. bytes_eq t key.items) kept) (sym same) ∙ sym is

pub too_long : (token : List ℕ) (one : KeptText) (kept : List (List ℕ × KeptText)) → 4194304 < length one.text
    → kept ≡ kept_with token one kept
unfolding kept_with
too_long token one kept long = rw (lt-leb (length one.text) 4194304 long) refl

pub keeps : (token : List ℕ) (one : KeptText) (old mid new : List (List ℕ × KeptText))
    → length one.text ≤ 4194304 → mid ≡ latest_with 4096 token one old → new ≡ first_within 4194304 mid
    → new ≡ kept_with token one old
unfolding kept_with
keeps token one old mid new short added less =
    rw (le-leb (length one.text) 4194304 short) (less ∙ ap (first_within 4194304) added)
