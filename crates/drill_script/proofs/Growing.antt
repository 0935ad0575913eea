-- One more line.
use Rattle.std.proofs.Common.{◌≡◌, ◌≢◌, ◌↔◌, ◌+◌, ℕ, if◌then◌else◌, Bool, false, true, not, Option, None, Some}
use Rattle.std.proofs.Common.{MatchOption, List, [], ◌∷◌}
use Rattle.std.specs.Prelude.{IfErr, Result, Ok, Err}
use Rattle.std.proofs.Common.{◌++◌, length, map, inl, inr, refl, sym, subst, ap, ◌∙◌, append-nil, append_assoc}
use Rattle.std.proofs.Common.{arith}
use Rattle.std.specs.Prelude.{◌⊎◌, Contains}
use Rattle.std.specs.List.{AllZip, IsDistinct, list_any}
use Rattle.std.specs.Bool.{Decides}
use Rattle.std.specs.Cmp.Lexicographic.{nat_list_eq_equiv}
use Rattle.std.specs.Str.{bytes_eq}
use Rattle.std.proofs.lemmas.Bool.{cases_Bool}
use Rattle.std.proofs.lemmas.Map.Keys.{IsDistinct-push}
use Rattle.std.proofs.lemmas.Map.Views.{Contains-from_any}
use Rattle.std.proofs.lemmas.Slice.Eq.{bytes_eq-Decides}
use Rattle.std.proofs.lemmas.List.Elements.{All-nil, All-push, Contains-append_left, Contains-push}
use Rattle.std.proofs.lemmas.List.Elements.{Contains-push_cases}
use Rattle.std.specs.Vec.{vec_items}
use Rattle.feed_conf.specs.PeerView.{settings_view}
use Rattle.feed_conf.specs.Settings.{Settings}
use Rattle.funnel.specs.Stream.{BeginsWithLine, IsUnended}
use Rattle.funnel.specs.StreamLaws.{ended_push}
use Rattle.drill_script.specs.DiskName.{is_same}
use Rattle.drill_script.specs.Draft.{Drafts, Gains, IsRefusal, IsTapeRefusal, held_by, held_in, held_on}
use Rattle.drill_script.specs.Line.{SentenceView, Blank, Declares, Gives, Takes, Says}
use Rattle.drill_script.specs.Script.{KeepsOrder, LineSays, MayFollow, Reads, names_of, peers_of, line_numbers_from}
use Rattle.drill_script.specs.Script.{held_of, line_numbers_of, steps_of}
use Rattle.drill_script.specs.Step.{StepView, step_view}
use Rattle.drill_script.specs.Sentence.{sentence_view}
use Rattle.drill_script.specs.declared.disk_name.DiskName.{DiskName}
use Rattle.drill_script.specs.declared.disk_name.TapeDisk.{TapeDisk}
use Rattle.drill_script.specs.declared.disk_name.TapeDisk.TheVariants.{First, Second}
use Rattle.drill_script.specs.declared.draft.Draft.{Draft}
use Rattle.drill_script.specs.declared.draft.GivenOctets.{GivenOctets}
use Rattle.drill_script.specs.declared.fault.BrokenRule.TheVariants.{NoStep, NoPeer}
use Rattle.drill_script.specs.declared.fault.BrokenRule.TheVariants.{PeerBehindStep, DeclaredTwice, NoTape}
use Rattle.drill_script.specs.declared.fault.BrokenRule.TheVariants.{TapeBehindStep, NoPeerOfTape, TapeTwice, Unended}
use Rattle.drill_script.specs.declared.fault.ScriptFault.{ScriptFault}
use Rattle.drill_script.specs.declared.fault.ScriptFault.TheVariants.{Broken, NoMemory}
use Rattle.drill_script.specs.declared.sentence.Sentence.{Sentence}
use Rattle.feed_conf.specs.declared.conf.PeerConf.{PeerConf}
use Rattle.world_core.specs.declared.step.Step.{Step}
use Rattle.std.specs.BTreeMap.{is_at}
use Rattle.std.specs.BTreeSet.{insert_key}
use Rattle.std.proofs.lemmas.List.{map-append}
use Rattle.drill_script.proofs.DiskNames.{is_same-Decides, one_name}
use Rattle.drill_script.proofs.Names.{Octets, gains_key, keeps_key, octets_cmp, unfound}

pub steps_of-append : (a b : List SentenceView) → steps_of (a ++ b) ≡ steps_of a ++ steps_of b
steps_of-append [] b = refl
steps_of-append (Blank ∷ a) b = steps_of-append a b
steps_of-append (Declares peer ∷ a) b = steps_of-append a b
steps_of-append (Gives name octets ∷ a) b = steps_of-append a b
steps_of-append (Takes step ∷ a) b = ap (λ (s : List StepView). step ∷ s) (steps_of-append a b)

pub peers_of-append : (a b : List SentenceView) → peers_of (a ++ b) ≡ peers_of a ++ peers_of b
peers_of-append [] b = refl
peers_of-append (Blank ∷ a) b = peers_of-append a b
peers_of-append (Declares peer ∷ a) b = ap (λ (s : List Settings). peer ∷ s) (peers_of-append a b)
peers_of-append (Gives name octets ∷ a) b = peers_of-append a b
peers_of-append (Takes step ∷ a) b = peers_of-append a b

-- the line numbers of later sentences go on after those of earlier ones
line_numbers_append : (line_number next : ℕ) (a b : List SentenceView) → next ≡ line_number + length a →
    line_numbers_from line_number (a ++ b) ≡ line_numbers_from line_number a ++ line_numbers_from next b
line_numbers_append line_number next [] b e =
    let same : line_number ≡ next = omega (arith, e) in ap (λ (p : ℕ). line_numbers_from p b) same
line_numbers_append line_number next (Blank ∷ a) b e = line_numbers_append (line_number + 1) next a b (omega (arith, e))
line_numbers_append line_number next (Declares peer ∷ a) b e =
    line_numbers_append (line_number + 1) next a b (omega (arith, e))
line_numbers_append line_number next (Gives name octets ∷ a) b e =
    line_numbers_append (line_number + 1) next a b (omega (arith, e))
line_numbers_append line_number next (Takes step ∷ a) b e =
    ap (λ (ps : List ℕ). line_number ∷ ps) (line_numbers_append (line_number + 1) next a b (omega (arith, e)))

-- the first of two, if it is there
abbrev pub or_else : Option (List ℕ) → Option (List ℕ) → Option (List ℕ)
or_else None other = other
or_else (Some octets) other = Some octets

or_none : (one : Option (List ℕ)) → or_else one None ≡ one
or_none None = refl
or_none (Some octets) = refl

tape_first : (this : Bool) (octets : List ℕ) (all one other : Option (List ℕ)) → all ≡ or_else one other →
    (if this then Some octets else all) ≡ or_else (if this then Some octets else one) other
tape_first true octets all one other e = refl
tape_first false octets all one other e = e

-- what earlier sentences give goes before what later sentences give
held_of-append : (a b : List SentenceView) (name : DiskName) →
    held_of (a ++ b) name ≡ or_else (held_of a name) (held_of b name)
held_of-append [] b name = refl
held_of-append (Blank ∷ a) b name = held_of-append a b name
held_of-append (Declares peer ∷ a) b name = held_of-append a b name
held_of-append (Gives disk octets ∷ a) b name =
    tape_first (is_same disk name) octets (held_of (a ++ b) name) (held_of a name) (held_of b name)
    (held_of-append a b name)
held_of-append (Takes step ∷ a) b name = held_of-append a b name

-- the names that earlier sentences declare come before those of later ones
pub names_of-append : (a b : List SentenceView) → names_of (a ++ b) ≡ names_of a ++ names_of b
names_of-append a b =
    ap (map (λ (p : Settings). p.name)) (peers_of-append a b) ∙ map-append (λ (p : Settings). p.name) (peers_of a)
    (peers_of b)

abbrev pub HasDistinct : List (List ℕ) → Type 0
HasDistinct names = IsDistinct bytes_eq names

-- a name that is not among them passes no test
strange : (name : List ℕ) (names : List (List ℕ)) → (Contains names name → ⊥) → list_any (bytes_eq name) names ≡ false
strange name names none = elim (cases_Bool (list_any (bytes_eq name) names)) [
  | inl found ↦ absurd (none (Contains-from_any (λ x y e. (bytes_eq-Decides x y).0 e) name names found))
  | inr other ↦ other
]

-- distinct names with those of one more sentence
pub one_more : (before : List SentenceView) (said : SentenceView) → HasDistinct (names_of before) →
    MayFollow before said → HasDistinct (names_of before ++ names_of (said ∷ []))
one_more before Blank d may = subst HasDistinct (sym (append-nil (names_of before))) d
one_more before (Gives name octets) d may = subst HasDistinct (sym (append-nil (names_of before))) d
one_more before (Takes step) d may = subst HasDistinct (sym (append-nil (names_of before))) d
one_more before (Declares peer) d may =
    IsDistinct-push nat_list_eq_equiv (names_of before) peer.name d (strange peer.name (names_of before) may.1)

pub zip_push : {A B : Type 0} (R : A → B → Type 0) (xs : List A) (ys : List B) (x : A) (y : B) →
    AllZip R xs ys → R x y → AllZip R (xs ++ x ∷ []) (ys ++ y ∷ [])
zip_push R [] [] x y all one = (one, tt)
zip_push R [] (b ∷ ys) x y all one = absurd all
zip_push R (a ∷ xs) [] x y all one = absurd all
zip_push R (a ∷ xs) (b ∷ ys) x y all one = (all.0, zip_push R xs ys x y all.1 one)

order_push : (before later : List SentenceView) (said : SentenceView) → KeepsOrder before later →
    MayFollow (before ++ later) said → KeepsOrder before (later ++ said ∷ [])
order_push before [] said order may = (
  subst (λ (b : List SentenceView). MayFollow b said)
      (append-nil before) may,
  tt,
)
order_push before (s ∷ later) said order may = (
  order.0,
  order_push (before ++ s ∷ []) later said order.1
      (subst (λ (b : List SentenceView). MayFollow b said) (sym (append_assoc before (s ∷ []) later)) may),
)

-- a text of which one more line is read
pub reads_more : (text rest line more : List ℕ) (sentences : List SentenceView) (said : SentenceView) →
    Reads text sentences rest → BeginsWithLine rest line more →
    LineSays line said → MayFollow sentences said → Reads text (sentences ++ said ∷ []) more
reads_more text rest line more sentences said r begins says may = record {
  lines = r.lines ++ line ∷ [];
  whole = ended_push text rest line more r.lines r.whole begins.0;
  each = All-push IsUnended r.lines line r.each begins.1;
  says = zip_push LineSays r.lines sentences line said r.says says;
  order = order_push [] sentences said r.order may;
}

-- nothing is read
pub reads_none : (text : List ℕ) → Reads text [] text
reads_none text = record { lines = []; whole = refl; each = All-nil IsUnended; says = tt; order = tt }

-- a draft with what one more line says
gains : (old new : Draft) (before : List SentenceView) (said : SentenceView) → MayFollow before said →
    map settings_view new.peers.items ≡ peers_of before ++ peers_of (said ∷ []) →
    ((name : List ℕ) →
    Contains (map vec_items new.names.keys) name ↔ Contains (names_of before ++ names_of (said ∷ [])) name) →
    HasDistinct (names_of before) →
    ((name : DiskName) → held_in new name ≡ or_else (held_of before name) (held_of (said ∷ []) name)) →
    map step_view new.steps.items ≡ steps_of before ++ steps_of (said ∷ []) →
    new.lines.items ≡ line_numbers_of before ++ line_numbers_from (1 + length before) (said ∷ [])
    → Gains old new before said
gains old new before said may peers names distinct tapes steps lines =
    let both = peers_of-append before (said ∷ []) in
    let named = names_of-append before (said ∷ []) in
    record {
      may = may;
      drafts = record {
        peers = peers ∙ sym both;
        names = λ name. subst
            (λ (ns : List (List ℕ)). Contains (map vec_items new.names.keys) name ↔ Contains ns name) (sym named)
            (names name);
        distinct = subst HasDistinct (sym named) (one_more before said distinct may);
        tapes = λ name. tapes name ∙ sym (held_of-append before (said ∷ []) name);
        steps = steps ∙ sym (steps_of-append before (said ∷ []));
        lines = lines ∙ sym (line_numbers_append 1 (1 + length before) before (said ∷ []) refl);
      };
    }

-- drafts that hold the same of each disk
held_same : (old new : Draft) (peer : Option (List ℕ)) (disk : TapeDisk) → new.firsts ≡ old.firsts →
    new.seconds ≡ old.seconds → held_on new peer disk ≡ held_on old peer disk
held_same old new peer First firsts seconds = ap (λ (given : GivenOctets). held_by given peer) firsts
held_same old new peer Second firsts seconds = ap (λ (given : GivenOctets). held_by given peer) seconds

pub gains_blank : (draft : Draft) (before : List SentenceView) → Drafts draft before → Gains draft draft before Blank
gains_blank draft before d =
    gains draft draft before Blank tt (d.peers ∙ sym (append-nil (peers_of before)))
    (λ name. subst (λ (ns : List (List ℕ)). Contains (map vec_items draft.names.keys) name ↔ Contains ns name)
    (sym (append-nil (names_of before))) (d.names name)) d.distinct
    (λ name. d.tapes name ∙ sym (or_none (held_of before name)))
    (d.steps ∙ sym (append-nil (steps_of before))) (d.lines ∙ sym (append-nil (line_numbers_of before)))

pub gains_step : (old new : Draft) (step : Step) (line_number : ℕ) (before : List SentenceView) →
    new.peers.items ≡ old.peers.items → new.names.keys ≡ old.names.keys → new.firsts ≡ old.firsts →
    new.seconds ≡ old.seconds → new.steps.items ≡ old.steps.items ++ step ∷ [] → new.lines.items ≡ old.lines.items
    ++ line_number ∷ [] →
    line_number ≡ length before + 1 → Drafts old before → Gains old new before (Takes (step_view step))
gains_step old new step line_number before peers names firsts seconds steps lines at d =
    gains old new before (Takes (step_view step)) tt (ap (map settings_view) peers ∙ d.peers
    ∙ sym (append-nil (peers_of before)))
    (λ name. subst (λ (ns : List (List ℕ)). Contains (map vec_items new.names.keys) name ↔ Contains ns name)
    (sym (append-nil (names_of before)))
    (subst (λ (ks : List Octets). Contains (map vec_items ks) name ↔ Contains (names_of before) name) (sym names)
    (d.names name))) d.distinct
    (λ name. held_same old new name.peer name.disk firsts seconds ∙ d.tapes name ∙ sym (or_none (held_of before name)))
    (ap (map step_view) steps ∙ map-append step_view old.steps.items (step ∷ [])
    ∙ ap (λ (s : List StepView). s ++ step_view step ∷ []) d.steps)
    (let same : line_number ≡ 1 + length before = omega (arith, at) in
    lines ∙ ap (λ (p : ℕ). old.lines.items ++ p ∷ []) same
    ∙ ap (λ (ps : List ℕ). ps ++ (1 + length before) ∷ []) d.lines)

none_distinct : HasDistinct []
unfolding IsDistinct
none_distinct = tt

-- a draft that holds nothing
held_none : (draft : Draft) (peer : Option (List ℕ)) (disk : TapeDisk) →
    ((p : Option (List ℕ)) → held_by draft.firsts p ≡ None) → ((p : Option (List ℕ)) → held_by draft.seconds p ≡ None) →
    held_on draft peer disk ≡ None
held_none draft peer First firsts seconds = firsts peer
held_none draft peer Second firsts seconds = seconds peer

pub drafts_none : (draft : Draft) → draft.peers.items ≡ [] → draft.names.keys ≡ [] →
    ((p : Option (List ℕ)) → held_by draft.firsts p ≡ None) → ((p : Option (List ℕ)) → held_by draft.seconds p ≡ None) →
    draft.steps.items ≡ [] → draft.lines.items ≡ [] → Drafts draft []
drafts_none draft peers names firsts seconds steps lines = record {
  peers = ap (map settings_view) peers;
  names = λ name. subst (λ (ks : List Octets). Contains (map vec_items ks) name ↔ Contains (names_of []) name)
      (sym names) (λ h. h, λ h. h);
  distinct = none_distinct;
  tapes = λ name. held_none draft name.peer name.disk firsts seconds;
  steps = ap (map step_view) steps;
  lines = lines;
}

-- no step is held
no_steps : (steps : List Step) → length steps ≡ 0 → map step_view steps ≡ []
no_steps [] none = refl
no_steps (first ∷ steps) none = absurd (omega arith)

pub stepless : (draft : Draft) (before : List SentenceView) → Drafts draft before → length draft.steps.items ≡ 0 →
    steps_of before ≡ []
stepless draft before d none = sym d.steps ∙ no_steps draft.steps.items none

name_in : (key : Octets) (keys : List Octets) (names : List (List ℕ)) (new name : List ℕ) → key.items ≡ new →
    Contains (map vec_items keys) name ↔ Contains names name →
    Contains (map vec_items keys) name ⊎ (key.items ≡ name) → Contains (names ++ new ∷ []) name
name_in key keys names new name is both (inl old) = Contains-append_left names (new ∷ []) name (both.0 old)
name_in key keys names new name is both (inr same) =
    subst (λ (n : List ℕ). Contains (names ++ new ∷ []) n) (sym is ∙ same) (Contains-push names new)

name_out : (key : Octets) (keys : List Octets) (names : List (List ℕ)) (new name : List ℕ) → key.items ≡ new →
    Contains (map vec_items keys) name ↔ Contains names name → Contains names name ⊎ (new ≡ name) →
    Contains (map vec_items keys) name ⊎ (key.items ≡ name)
name_out key keys names new name is both (inl old) = inl (both.1 old)
name_out key keys names new name is both (inr same) = inr (is ∙ same)

pub gains_peer : (old new : Draft) (conf : PeerConf) (key : Octets) (before : List SentenceView) →
    length old.steps.items ≡ 0 → key.items ≡ conf.name →
    list_any (is_at (octets_cmp key)) old.names.keys ≡ false →
    new.names.keys ≡ insert_key octets_cmp old.names.keys key →
    new.peers.items ≡ old.peers.items ++ conf ∷ [] → new.firsts ≡ old.firsts → new.seconds ≡ old.seconds →
    new.steps.items ≡ old.steps.items →
    new.lines.items ≡ old.lines.items → Drafts old before → Gains old new before (Declares (settings_view conf))
gains_peer old new conf key before none is absent keys peers firsts seconds steps lines d =
    let strange : Contains (names_of before) conf.name → ⊥ =
    λ h. unfound key.items old.names.keys absent (subst (λ (n : List ℕ). Contains (map vec_items old.names.keys) n)
    (sym is) ((d.names conf.name).1 h)) in
    gains old new before (Declares (settings_view conf)) (stepless old before d none, strange)
    (ap (map settings_view) peers ∙ map-append settings_view old.peers.items (conf ∷ [])
    ∙ ap (λ (s : List Settings). s ++ settings_view conf ∷ []) d.peers)
    (λ name. subst (λ (ks : List Octets). Contains (map vec_items ks) name ↔ Contains
    (names_of before ++ conf.name ∷ []) name) (sym keys) (
      λ h. name_in key old.names.keys (names_of before) conf.name name is (d.names name)
          (gains_key key old.names.keys name h),
      λ h. keeps_key key old.names.keys name (name_out key old.names.keys (names_of before) conf.name name is
          (d.names name) (Contains-push_cases (names_of before) conf.name name h)),
    )) d.distinct
    (λ name. held_same old new name.peer name.disk firsts seconds ∙ d.tapes name ∙ sym (or_none (held_of before name)))
    (ap (map step_view) steps ∙ d.steps ∙ sym (append-nil (steps_of before)))
    (lines ∙ d.lines ∙ sym (append-nil (line_numbers_of before)))

-- octets that are given to a disk that has none
tape_given : (name q : DiskName) (octets : List ℕ) (old new before : Option (List ℕ)) → before ≡ old →
    (name ≡ q → (new ≡ Some octets) × (old ≡ None)) → (name ≢ q → new ≡ old) → (this : Bool) →
    Decides this (name ≡ q) → new ≡ or_else before (if this then Some octets else None)
tape_given name q octets old new before held same other true decides =
    let is = same (decides.0 refl) in
    is.0 ∙ sym (ap (λ b. or_else b (Some octets)) (held ∙ is.1))
tape_given name q octets old new before held same other false decides =
    other (λ e. let never : false ≡ true = decides.1 e in cc) ∙ sym held ∙ sym (or_none before)

pub gains_tape : (old new : Draft) (name : DiskName) (octets : List ℕ) (before : List SentenceView) →
    MayFollow before (Gives name octets) → new.peers.items ≡ old.peers.items → new.names.keys ≡ old.names.keys →
    held_in new name ≡ Some octets →
    ((q : DiskName) → q ≢ name → held_in new q ≡ held_in old q) →
    new.steps.items ≡ old.steps.items → new.lines.items ≡ old.lines.items → Drafts old before →
    Gains old new before (Gives name octets)
gains_tape old new name octets before may peers names here others steps lines d =
    gains old new before (Gives name octets) may (ap (map settings_view) peers ∙ d.peers
    ∙ sym (append-nil (peers_of before)))
    (λ other. subst (λ (ns : List (List ℕ)). Contains (map vec_items new.names.keys) other ↔ Contains ns other)
    (sym (append-nil (names_of before)))
    (subst (λ (ks : List Octets). Contains (map vec_items ks) other ↔ Contains (names_of before) other)
    (sym names) (d.names other))) d.distinct
    (λ q. tape_given name q octets (held_in old q) (held_in new q) (held_of before q)
    (sym (d.tapes q))
    (λ same. (
      subst (λ (n : DiskName). held_in new n ≡ Some octets) same here,
      d.tapes q ∙ sym (ap (held_of before) same) ∙ may.2,
    ))
    (λ differ. others q (λ e. differ (sym e))) (is_same name q) (is_same-Decides name q))
    (ap (map step_view) steps ∙ d.steps ∙ sym (append-nil (steps_of before)))
    (lines ∙ d.lines ∙ sym (append-nil (line_numbers_of before)))

-- a disk is given octets: the first of a tape, and then nothing changes among the second ones
pub gains_first : (old new : Draft) (name : DiskName) (octets : List ℕ) (before : List SentenceView) →
    name.disk ≡ First → MayFollow before (Gives name octets) → new.peers.items ≡ old.peers.items →
    new.names.keys ≡ old.names.keys → held_by new.firsts name.peer ≡ Some octets →
    ((other : Option (List ℕ)) → other ≢ name.peer → held_by new.firsts other ≡ held_by old.firsts other) →
    new.seconds ≡ old.seconds → new.steps.items ≡ old.steps.items → new.lines.items ≡ old.lines.items →
    Drafts old before → Gains old new before (Gives name octets)
gains_first old new name octets before disk may peers names here others seconds steps lines d =
    gains_tape old new name octets before may peers names (ap (held_on new name.peer) disk ∙ here)
    (λ q differ. by q q.disk refl differ) steps lines d
  where
    by : (q : DiskName) (side : TapeDisk) → q.disk ≡ side → q ≢ name → held_in new q ≡ held_in old q
    by q First is differ =
        ap (held_on new q.peer) is ∙ others q.peer (λ same. differ (one_name q name same (is ∙ sym disk)))
        ∙ sym (ap (held_on old q.peer) is)
    by q Second is differ =
        ap (held_on new q.peer) is ∙ ap (λ (given : GivenOctets). held_by given q.peer) seconds
        ∙ sym (ap (held_on old q.peer) is)

-- or the second, and nothing changes among the first ones
pub gains_second : (old new : Draft) (name : DiskName) (octets : List ℕ) (before : List SentenceView) →
    name.disk ≡ Second → MayFollow before (Gives name octets) → new.peers.items ≡ old.peers.items →
    new.names.keys ≡ old.names.keys → held_by new.seconds name.peer ≡ Some octets →
    ((other : Option (List ℕ)) → other ≢ name.peer → held_by new.seconds other ≡ held_by old.seconds other) →
    new.firsts ≡ old.firsts → new.steps.items ≡ old.steps.items → new.lines.items ≡ old.lines.items →
    Drafts old before → Gains old new before (Gives name octets)
gains_second old new name octets before disk may peers names here others firsts steps lines d =
    gains_tape old new name octets before may peers names (ap (held_on new name.peer) disk ∙ here)
    (λ q differ. by q q.disk refl differ) steps lines d
  where
    by : (q : DiskName) (side : TapeDisk) → q.disk ≡ side → q ≢ name → held_in new q ≡ held_in old q
    by q First is differ =
        ap (held_on new q.peer) is ∙ ap (λ (given : GivenOctets). held_by given q.peer) firsts
        ∙ sym (ap (held_on old q.peer) is)
    by q Second is differ =
        ap (held_on new q.peer) is ∙ others q.peer (λ same. differ (one_name q name same (is ∙ sym disk)))
        ∙ sym (ap (held_on old q.peer) is)

-- what was read of a line is what the line says
pub said_of : (line : List ℕ) (read : Option Sentence) (s t : Sentence) → read ≡ Some s → s ≡ t →
    MatchOption read ((said : SentenceView) → Says line said → ⊥) (λ made. Says line (sentence_view made)) →
    Says line (sentence_view t)
said_of line None s t e f h = cc
said_of line (Some read) s t e f h = let same : read ≡ t =
    cc in subst (λ (x : Sentence). Says line (sentence_view x)) same h

-- a tape is refused for a reason that its line has
tape_refused : (line_number : ℕ) (line : List ℕ) (name : DiskName) (octets : List ℕ) (before : List SentenceView)
    (fault : ScriptFault) →
    Says line (Gives name octets) → IsTapeRefusal line_number name before fault
    → IsRefusal line_number line before fault
tape_refused line_number line name octets before (Broken at NoStep) says r = absurd r.1
tape_refused line_number line name octets before (Broken at NoPeer) says r = absurd r.1
tape_refused line_number line name octets before (Broken at PeerBehindStep) says r = absurd r.1
tape_refused line_number line name octets before (Broken at DeclaredTwice) says r = absurd r.1
tape_refused line_number line name octets before (Broken at NoTape) says r = absurd r.1
tape_refused line_number line name octets before (Broken at TapeBehindStep) says r = (r.0, (name, octets, says, r.1))
tape_refused line_number line name octets before (Broken at NoPeerOfTape) says r =
    (r.0, (name, octets, says, r.1.0, r.1.1))
tape_refused line_number line name octets before (Broken at TapeTwice) says r =
    (r.0, (name, octets, says, r.1.0, r.1.1, r.1.2))
tape_refused line_number line name octets before (Broken at Unended) says r = absurd r.1
tape_refused line_number line name octets before NoMemory says r = tt

pub tape_reported : {A : Type 0} (draft : Draft) (line_number : ℕ) (line : List ℕ) (name : DiskName) (octets : List ℕ)
    (answer : Result A ScriptFault) →
    Says line (Gives name octets) → IfErr answer (λ fault. (before : List SentenceView) → Drafts draft before →
    IsTapeRefusal line_number name before fault) →
    IfErr answer (λ fault. (before : List SentenceView) → Drafts draft before → IsRefusal line_number line before fault)
tape_reported draft line_number line name octets (Ok a) says told = tt
tape_reported draft line_number line name octets (Err fault) says told = λ before drafts.
    tape_refused line_number line name octets before fault says (told before drafts)

-- an answer that a key is not new
pub was_there : (there new : Bool) → new ≡ not there → new ≡ false → there ≡ true
was_there true new e n = refl
was_there false new e n = cc

pub was_strange : (there new : Bool) → new ≡ not there → new ≡ true → there ≡ false
was_strange false new e n = refl
was_strange true new e n = cc
