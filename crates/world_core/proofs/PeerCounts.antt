-- Names and counts of peers, one peer after another.
use Rattle.std.proofs.Common.{◌≡◌, ℕ, zero, suc, ◌+◌, ◌<◌, Bool, true, false, ltb, List, [], ◌∷◌, ◌++◌, length, get_or}
use Rattle.std.proofs.Common.{take, drop, map, refl, sym, ap, ◌∙◌, subst, arith, append-nil}
use Rattle.std.specs.List.{AllZip}
use Rattle.std.proofs.lemmas.Bool.{lt-ltb, ltb-true}
use Rattle.std.proofs.Math.ListN.{set}
use Rattle.std.proofs.lemmas.List.{length-map, take_more, take_more_set, take_all, map_push}
use Rattle.std.proofs.Math.Seq.{drop-length}
use Rattle.disk_model.specs.declared.Disk.{Ghosts}
use Rattle.ledger_core.specs.Ledger.{totals_of}
use Rattle.ledger_core.specs.declared.ledger.Totals.{Totals}
use Rattle.peer_queue.specs.Words.{ledger_of}
use Rattle.ledger_core.specs.State.{State}
use Rattle.sections.specs.Tapes.{ledger_at}
use Rattle.world_core.specs.Past.{Life, PeerPast}
use Rattle.world_core.specs.Stands.{PeerStands, StageStands, WorldStands, counts_in, counts_of, counts_when}
use Rattle.world_core.specs.declared.world.Stage.{Stage}
use Rattle.world_core.specs.declared.world.Stage.TheVariants.{Running}
use Rattle.world_core.specs.declared.world.World.{World}
use Rattle.world_core.specs.declared.peer.Peer.{Peer}
use Rattle.world_core.specs.declared.report.PeerTotals.{PeerTotals}
use Rattle.world_core.proofs.RelatedLists.{zip_equal}

-- one more name
pub name_more : {A B C : Type 0} (f : A → B) (g : C → B) (xs : List A) (i : ℕ) (x : A) (done now : List C) (y : C)
    → now ≡ done ++ y ∷ []
    → g y ≡ f x → x ≡ get_or xs i x → i < length xs → map g done ≡ map f (take i xs)
    → map g now ≡ map f (take (i + 1) xs)
name_more f g xs i x done now y is same here within so_far =
    ap (map g) is ∙ map_push g done y ∙ ap (λ l. l ++ g y ∷ []) so_far
    ∙ ap (λ b. map f (take i xs) ++ b ∷ []) (same ∙ ap f here)
    ∙ sym (map_push f (take i xs) (get_or xs i x)) ∙ sym (ap (map f) (take_more xs i x within))

-- what is reported of a peer
abbrev pub counted : {D : Type 0} {g : Ghosts D} → Peer D g → List ℕ × Totals
counted peer = (peer.conf.name, totals_of (ledger_of peer.station))

module _ {A B : Type 0} (f : A → B) where
  pub map_put : (xs : List A) (i : ℕ) (x : A) → map f (set xs i x) ≡ set (map f xs) i (f x)
  map_put [] i x = refl
  map_put (a ∷ xs) zero x = refl
  map_put (a ∷ xs) (suc i) x = ap (λ l. f a ∷ l) (map_put xs i x)

  pub map_get : (xs : List A) (i : ℕ) (d : A) → get_or (map f xs) i (f d) ≡ f (get_or xs i d)
  map_get [] zero d = refl
  map_get [] (suc i) d = refl
  map_get (a ∷ xs) zero d = refl
  map_get (a ∷ xs) (suc i) d = map_get xs i d

-- an element replaced by another that looks the same
pub same_put : {A B : Type 0} (f : A → B) (xs : List A) (i : ℕ) (x : A) → f x ≡ f (get_or xs i x)
    → map f (set xs i x) ≡ map f xs
same_put f [] i x same = refl
same_put f (a ∷ xs) zero x same = ap (λ b. b ∷ map f xs) same
same_put f (a ∷ xs) (suc i) x same = ap (λ l. f a ∷ l) (same_put f xs i x same)

-- one more element of a list looks like the other list's
pub take_put : {A B C : Type 0} (f : A → C) (g : B → C) (xs : List A) (ys : List B) (i : ℕ) (x : A) (y : B)
    → i < length xs → i < length ys
    → f x ≡ g y → y ≡ get_or ys i y → take i (map f xs) ≡ take i (map g ys)
    → take (i + 1) (map f (set xs i x)) ≡ take (i + 1) (map g ys)
take_put f g xs ys i x y within among same here so_far =
    ap (take (i + 1)) (map_put f xs i x)
    ∙ take_more_set (map f xs) i (f x) (omega (arith, within, length-map xs f))
    ∙ ap (λ l. l ++ f x ∷ []) so_far
    ∙ ap (λ c. take i (map g ys) ++ c ∷ []) (same ∙ ap g here ∙ sym (map_get g ys i y))
    ∙ sym (take_more (map g ys) i (g y) (omega (arith, among, length-map ys g)))

module _ {D : Type 0} {g : Ghosts D} where
  -- the name before a count is the peer's
  pub same_name : (totals : List PeerTotals) (peers : List (Peer D g)) (i : ℕ) (x : PeerTotals) (p : Peer D g)
      → map (λ (peer : PeerTotals). peer.name) totals ≡ map (λ (peer : Peer D g). peer.conf.name) peers
      → i < length totals → i < length peers
      → x ≡ get_or totals i x → p ≡ get_or peers i p → x.name ≡ p.conf.name
  same_name [] peers i x p same within among at here = absurd (omega (arith, within))
  same_name (t ∷ totals) [] i x p same within among at here = absurd (omega (arith, among))
  same_name (t ∷ totals) (q ∷ peers) zero x p same within among at here =
      let first : t.name ≡ q.conf.name = cc in
      ap (λ (y : PeerTotals). y.name) at ∙ first ∙ ap (λ (y : Peer D g). y.conf.name) (sym here)
  same_name (t ∷ totals) (q ∷ peers) (suc i) x p same within among at here =
      let rest : map (λ (peer : PeerTotals). peer.name) totals ≡ map (λ (peer : Peer D g). peer.conf.name) peers = cc in
      same_name totals peers i x p rest (omega (arith, within)) (omega (arith, among)) at here

  -- one more peer is counted
  pub counted_more : (initial totals : List PeerTotals) (peers : List (Peer D g)) (i : ℕ) (was now : PeerTotals)
      (peer : Peer D g)
      → map (λ (p : PeerTotals). p.name) totals ≡ map (λ (p : PeerTotals). p.name) initial
      → (map (λ (p : PeerTotals). p.name) initial ≡ map (λ (p : Peer D g). p.conf.name) peers
      → take i (counts_in totals) ≡ take i (map counted peers))
      → i < length totals → i < length peers → was ≡ get_or totals i was → peer ≡ get_or peers i peer
      → now ≡ record { name = was.name; totals = totals_of (ledger_of peer.station) }
      → map (λ (p : PeerTotals). p.name) initial ≡ map (λ (p : Peer D g). p.conf.name) peers
      → take (i + 1) (counts_in (set totals i now)) ≡ take (i + 1) (map counted peers)
  counted_more initial totals peers i was now peer names counts within among at here is same =
      let name : was.name ≡ peer.conf.name = same_name totals peers i was peer (names ∙ same) within among at here in
      take_put (λ (p : PeerTotals). (p.name, p.totals)) counted totals peers i now peer within among
      (ap (λ (p : PeerTotals). (p.name, p.totals)) is ∙ ap (λ n. (n, totals_of (ledger_of peer.station))) name) here
      (counts same)

-- the names stay
pub names_more : (initial totals : List PeerTotals) (i : ℕ) (was now : PeerTotals)
    → map (λ (p : PeerTotals). p.name) totals ≡ map (λ (p : PeerTotals). p.name) initial
    → was ≡ get_or totals i was → now.name ≡ was.name → i < length totals
    → map (λ (p : PeerTotals). p.name) (set totals i now) ≡ map (λ (p : PeerTotals). p.name) initial
names_more initial totals i was now names at is within =
    same_put (λ (p : PeerTotals). p.name) totals i now
    (is ∙ ap (λ (p : PeerTotals). p.name) (at ∙ other totals i within)) ∙ names
  where
    other : (xs : List PeerTotals) (k : ℕ) → k < length xs → get_or xs k was ≡ get_or xs k now
    other [] k below = absurd (omega (arith, below))
    other (x ∷ xs) zero below = refl
    other (x ∷ xs) (suc k) below = other xs k (omega (arith, below))

-- ---- within a list

pub below : (n m : ℕ) → true ≡ ltb n m → n < m
below n m is = ltb-true n m (sym is)

pub not_below : (n m : ℕ) → false ≡ ltb n m → n < m → ⊥
not_below n m is less = let yes = lt-ltb n m less in cc

-- what is written back in place of all
pub written_back : {A : Type 0} (n : ℕ) (new old : List A) → length new ≡ length old → n ≡ length old
    → take n (new ++ drop (length new) old) ≡ new
written_back n new old same long =
    ap (λ (k : ℕ). take n (new ++ drop k old)) same ∙ ap (λ l. take n (new ++ l)) (drop-length old)
    ∙ ap (take n) (append-nil new)
    ∙ take_all n new (omega (arith, same, long))

module _ {D : Type 0} {g : Ghosts D} where
  -- values that stand for peers have their counts
  pub counts_same : (pasts : List PeerPast) (peers : List (Peer D g)) → AllZip PeerStands pasts peers
      → map counted peers ≡ map (λ (peer : PeerPast). (peer.conf.name, totals_of (ledger_at peer.tape))) pasts
  counts_same pasts peers all =
      zip_equal PeerStands (λ (past : PeerPast). (past.conf.name, totals_of (ledger_at past.tape))) counted
      (λ past peer is. ap (λ conf. (conf.name, totals_of (ledger_of peer.station))) is.conf
      ∙ ap (λ (state : State). (past.conf.name, totals_of state)) is.tape.stands.ledger) pasts peers all

runs_counts : (b : Bool) (peers : List PeerPast) → b ≡ true
    → counts_when b peers ≡ map (λ (peer : PeerPast). (peer.conf.name, totals_of (ledger_at peer.tape))) peers
runs_counts true peers is = refl
runs_counts false peers is = cc

pub counts_are : (world : World) (life : Life) (stations : _) (conns : _) (counts : List (List ℕ × Totals))
    → WorldStands world life
    → world.stage ≡ Running stations conns → counts ≡ map counted stations.peers.items → counts ≡ counts_of life
counts_are world life stations conns counts stands is all =
    let here : StageStands life (Running stations conns) = subst (λ (s : Stage). StageStands life s) is stands.stage in
    all ∙ counts_same life.past.peers stations.peers.items here.1.peers
    ∙ sym (runs_counts life.running life.past.peers here.0)
