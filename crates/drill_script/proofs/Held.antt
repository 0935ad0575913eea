-- The tapes that a draft holds, by the names of their peers.
use Rattle.std.proofs.Common.{◌≡◌, ◌≢◌, ◌+◌, ◌<◌, ◌≤◌, ℕ, Bool, true}
use Rattle.std.proofs.Common.{false, List, [], ◌∷◌, length, get_or, Option, None}
use Rattle.std.proofs.Common.{Some, refl, sym, ap, ◌∙◌, arith}
use Rattle.std.specs.Bool.{Decides}
use Rattle.std.specs.List.{All, AllZip}
use Rattle.std.specs.Prelude.{is_some, option_map, unwrap_or}
use Rattle.std.specs.BTreeMap.{BTreeMap}
use Rattle.std.specs.Cmp.{eq_by_cmp_equiv}
use Rattle.std.specs.Cmp.Lexicographic.{slice_cmp}
use Rattle.std.specs.Map.{KeepsOthers}
use Rattle.std.specs.Ordering.{is_eq, nat_cmp}
use Rattle.std.specs.Str.{bytes_eq}
use Rattle.std.specs.Vec.{vec_items}
use Rattle.std.proofs.lemmas.Bool.{false_from_ne_true}
use Rattle.std.proofs.lemmas.Cmp.{nat_list_cmp_total}
use Rattle.std.proofs.lemmas.List.Elements.{All-cons, All-nil}
use Rattle.std.proofs.lemmas.Map.Keys.{apart_from_distinct}
use Rattle.std.proofs.lemmas.Map.Text.{is_eq-slice_cmp}
use Rattle.std.proofs.lemmas.Slice.Eq.{bytes_eq-Decides}
use Rattle.feed_conf.specs.declared.conf.PeerConf.{PeerConf}
use Rattle.drill_script.specs.Draft.{IsGiven, held_at, held_by}
use Rattle.drill_script.specs.Line.{SentenceView}
use Rattle.drill_script.specs.Script.{HoldsTape, confs_of, held_of, octets_in}
use Rattle.drill_script.specs.declared.disk_name.TapeDisk.{TapeDisk}
use Rattle.drill_script.specs.declared.draft.GivenOctets.{GivenOctets}
use Rattle.drill_script.specs.declared.disk_name.TapeDisk.TheVariants.{First, Second}
use Rattle.world_core.specs.Given.{GivenDisks}
use Rattle.drill_script.proofs.Growing.{HasDistinct}
use Rattle.drill_script.proofs.Names.{Octets}

abbrev pub Tapes : Type 0
Tapes = BTreeMap Octets Octets

-- octets that compare as equal are equal
same : (a b : List ℕ) → is_eq (slice_cmp nat_cmp a b) ≡ true → a ≡ b
same a b e = (bytes_eq-Decides a b).0 (sym (is_eq-slice_cmp a b) ∙ e)

-- no key equals two names
apart : (name other key : List ℕ) → other ≢ name → is_eq (slice_cmp nat_cmp name key) ≡ true →
    is_eq (slice_cmp nat_cmp other key) ≡ false
apart name other key differ e =
    false_from_ne_true (is_eq (slice_cmp nat_cmp other key)) (λ h. differ (same other key h ∙ sym (same name key e)))

-- the second map has the same as the first under each other name
abbrev pub Keeps : List ℕ → (old new : Tapes) → Type 0
Keeps name old new =
    KeepsOthers (λ (x y : Octets). is_eq (slice_cmp nat_cmp x.items y.items))
    (λ (key : Octets). is_eq (slice_cmp nat_cmp name key.items)) old.entries new.entries

pub others_held : (name other : List ℕ) (old new : Tapes) → Keeps name old new → other ≢ name →
    held_at new other ≡ held_at old other
unfolding KeepsOthers
others_held name other old new kept differ =
    ap (option_map vec_items) (kept (λ (key : Octets). is_eq (slice_cmp nat_cmp other key.items))
    (λ (x y : Octets). (eq_by_cmp_equiv nat_list_cmp_total).congr other x.items y.items)
    (λ (key : Octets). apart name other key.items differ))

-- what is given of the other tapes, if a peer is given octets
pub peers_held : (old new : GivenOctets) (key name : List ℕ) → key ≡ name → Keeps key old.peers new.peers →
    new.intake ≡ old.intake → (other : Option (List ℕ)) → other ≢ Some name → held_by new other ≡ held_by old other
peers_held old new key name is kept intake None differ = ap (option_map vec_items) intake
peers_held old new key name is kept intake (Some other) differ =
    others_held key other old.peers new.peers kept (λ same. differ (ap Some (same ∙ is)))

-- whether octets are held, by what is under their name
pub some_held : (held told : Option (List ℕ)) → held ≡ told → is_some held ≡ true → told ≢ None
some_held None told e some = λ none. cc
some_held (Some octets) told e some = λ none. let never : Some octets ≡ None = e ∙ none in cc

pub none_held : (held told : Option (List ℕ)) → held ≡ told → is_some held ≡ false → told ≡ None
none_held None told e none = sym e
none_held (Some octets) told e none = cc

-- what a test refuses does not hold
pub undeclared : (answer : Bool) (A : Type 0) → answer ≡ false → Decides answer A → A → ⊥
undeclared answer A fails decides a = let never : true ≡ false = sym (decides.1 a) ∙ fails in cc

pub is_found : (found : Option Octets) → is_some (option_map vec_items found) ≡ is_some found
is_found None = refl
is_found (Some octets) = refl

-- what is under the names from this line number on is unchanged
abbrev pub KeepsFrom : (names : List (List ℕ)) → ℕ → (old new : Tapes) → Type 0
KeepsFrom names from old new =
    (k : ℕ) → from ≤ k → k < length names → held_at new (get_or names k []) ≡ held_at old (get_or names k [])

other_name : (names : List (List ℕ)) (from k : ℕ) (name : List ℕ) → HasDistinct names → from < k → k < length names →
    get_or names from [] ≡ name → get_or names k [] ≢ name
other_name names from k name d below inside is e =
    let differ : bytes_eq (get_or names from []) (get_or names k []) ≡ false =
    apart_from_distinct bytes_eq names from k [] d below inside in
    let alike = (bytes_eq-Decides (get_or names from []) (get_or names k [])).1 (is ∙ sym e) in
    cc

pub keeps_next : (names : List (List ℕ)) (from : ℕ) (name : List ℕ) (start old new : Tapes) → HasDistinct names →
    get_or names from [] ≡ name → Keeps name old new → KeepsFrom names from start old →
    KeepsFrom names (from + 1) start new
keeps_next names from name start old new d is kept before = λ k low high.
    others_held name (get_or names k []) old new kept (other_name names from k name d (omega (arith, low)) high is)
    ∙ before k (omega (arith, low)) high

-- what is given to a peer: the tape under its name, or an empty one
pub given_octets : (found : Option Octets) (none : Octets) (held : Option (List ℕ)) →
    option_map vec_items found ≡ held → none.items ≡ [] → (unwrap_or found none).items ≡ unwrap_or held []
given_octets None none held e empty = empty ∙ ap (λ h. unwrap_or h []) e
given_octets (Some octets) none held e empty = ap (λ h. unwrap_or h []) e

-- the peers that are given something are those that were declared
pub given_confs : (firsts seconds : Tapes) (confs : List PeerConf) (given : List GivenDisks) →
    AllZip (IsGiven firsts seconds) confs given → confs_of given ≡ confs
given_confs firsts seconds [] [] all = refl
given_confs firsts seconds [] (g ∷ given) all = absurd all
given_confs firsts seconds (c ∷ confs) [] all = absurd all
given_confs firsts seconds (c ∷ confs) (g ∷ given) all =
    ap (λ (x : PeerConf). x ∷ confs_of given) all.0.conf_is
    ∙ ap (λ (xs : List PeerConf). c ∷ xs) (given_confs firsts seconds confs given all.1)

-- these are what sentences say of one disk of each peer's tape
abbrev pub HoldsAt : Tapes → List SentenceView → TapeDisk → Type 0
HoldsAt tapes sentences disk =
    (name : List ℕ) → held_at tapes name ≡ held_of sentences (record { peer = Some name; disk = disk })

octets_at : (tapes : Tapes) (sentences : List SentenceView) (disk : TapeDisk) → HoldsAt tapes sentences disk →
    (conf own : PeerConf) (octets : List ℕ) → own ≡ conf → octets ≡ unwrap_or (held_at tapes conf.name) [] →
    octets ≡ octets_in sentences (Some own.name) disk
octets_at tapes sentences disk held conf own octets same is =
    is ∙ ap (λ h. unwrap_or h []) (held conf.name)
    ∙ ap (λ (x : PeerConf). octets_in sentences (Some x.name) disk) (sym same)

-- and each is given what its lines say
pub given_tapes : (firsts seconds : Tapes) (sentences : List SentenceView) → HoldsAt firsts sentences First →
    HoldsAt seconds sentences Second → (confs : List PeerConf) (given : List GivenDisks) →
    AllZip (IsGiven firsts seconds) confs given → All (HoldsTape sentences) given
given_tapes firsts seconds sentences one other [] [] all = All-nil (HoldsTape sentences)
given_tapes firsts seconds sentences one other [] (g ∷ given) all = absurd all
given_tapes firsts seconds sentences one other (c ∷ confs) [] all = absurd all
given_tapes firsts seconds sentences one other (c ∷ confs) (g ∷ given) all =
    All-cons (HoldsTape sentences) g given (
      octets_at firsts sentences First one c g.0 g.1.items all.0.conf_is all.0.first,
      octets_at seconds sentences Second other c g.0 g.2.items all.0.conf_is all.0.second,
    )
    (given_tapes firsts seconds sentences one other confs given all.1)
