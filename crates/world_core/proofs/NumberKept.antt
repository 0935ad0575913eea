-- How a number is kept, and when it may be sealed.
use Rattle.std.proofs.Common.{◌≡◌, ℕ, zero, suc, ◌+◌, ◌<◌, Bool, true, false, ◌&&◌, Option, None, Some, IfSome, IfNone}
use Rattle.std.proofs.Common.{List, [], ◌∷◌, ◌++◌, length, get_or, take, drop, map, refl, sym, ap, ◌∙◌, subst, arith}
use Rattle.std.proofs.Common.{add-one}
use Rattle.std.proofs.Math.ListN.{set}
use Rattle.std.specs.List.{AllByRecursion, AllZip, list_all}
use Rattle.disk_model.specs.declared.Disk.{Ghosts}
use Rattle.recovery.specs.declared.tape.Tape.{Tape}
use Rattle.world_core.specs.Past.{Past, PeerPast}
use Rattle.world_core.specs.Steps.{begun_at}
use Rattle.world_core.specs.Stands.{PeerStands, Stands, TapeStands, unparted}
use Rattle.world_core.specs.declared.peer.Peer.{Peer}
use Rattle.world_core.specs.declared.stations.Stations.{Stations}
use Rattle.world_core.proofs.SoundOverEvents.{sound_begun}
use Rattle.world_core.proofs.RelatedLists.{zip_both}

pub if_some : {A : Type 0} (o : Option A) (P : A → Type 0) → ((x : A) → o ≡ Some x → P x) → IfSome o P
if_some None P all = tt
if_some (Some x) P all = all x refl

pub if_none : {A : Type 0} (o : Option A) (P : Type 0) → (o ≡ None → P) → IfNone o P
if_none None P all = all refl
if_none (Some x) P all = tt

-- ---- one more element of a list was changed in place

module _ {A : Type 0} (f : A → A) where
  get_next : (xs : List A) (i : ℕ) (d : A) → get_or (map f (take i xs) ++ drop i xs) i d ≡ get_or xs i d
  get_next [] zero d = refl
  get_next [] (suc i) d = refl
  get_next (x ∷ xs) zero d = refl
  get_next (x ∷ xs) (suc i) d = get_next xs i d

  set_next : (xs : List A) (i : ℕ) (d : A) → i < length xs
      → set (map f (take i xs) ++ drop i xs) i (f (get_or xs i d)) ≡ map f (take (suc i) xs) ++ drop (suc i) xs
  set_next [] i d within = absurd (omega arith)
  set_next (x ∷ xs) zero d within = refl
  set_next (x ∷ xs) (suc i) d within = ap (λ (l : List A). f x ∷ l) (set_next xs i d (omega arith))

  pub changed_more : (xs ys : List A) (i : ℕ) (d : A) → i < length xs → ys ≡ map f (take i xs) ++ drop i xs
      → set ys i (f (get_or ys i d)) ≡ map f (take (i + 1) xs) ++ drop (i + 1) xs
  changed_more xs ys i d within so_far =
      rw (so_far, get_next xs i d, add-one) (set_next xs i d within)

both : (a b : Bool) → a ≡ true → b ≡ true → (a && b) ≡ true
both true b one other = other
both false b one other = cc

first : (a b : Bool) → (a && b) ≡ true → a ≡ true
first true b is = refl
first false b is = cc

second : (a b : Bool) → (a && b) ≡ true → b ≡ true
second true b is = is
second false b is = cc

module _ {D : Type 0} {g : Ghosts D} where
  pub each_parted : (pasts : List PeerPast) (peers : List (Peer D g)) → AllZip PeerStands pasts peers
      → list_all (λ (peer : Peer D g). peer.parted) peers ≡ true
      → AllByRecursion (λ (peer : PeerPast). peer.parted ≡ true) pasts
  each_parted [] [] all is = tt
  each_parted [] (peer ∷ peers) all is = tt
  each_parted (past ∷ pasts) [] all is = absurd all
  each_parted (past ∷ pasts) (peer ∷ peers) all is =
      (sym all.0.parted ∙ first peer.parted _ is, each_parted pasts peers all.1 (second peer.parted _ is))

  pub parted_each : (pasts : List PeerPast) (peers : List (Peer D g)) → AllZip PeerStands pasts peers
      → AllByRecursion (λ (peer : PeerPast). peer.parted ≡ true) pasts
      → list_all (λ (peer : Peer D g). peer.parted) peers ≡ true
  parted_each [] [] all is = refl
  parted_each [] (peer ∷ peers) all is = absurd all
  parted_each (past ∷ pasts) [] all is = refl
  parted_each (past ∷ pasts) (peer ∷ peers) all is =
      both peer.parted _ (all.0.parted ∙ is.0) (parted_each pasts peers all.1 is.1)

  unparted_stand : (pasts : List PeerPast) (peers : List (Peer D g)) → AllZip PeerStands pasts peers
      → AllZip PeerStands (map (λ (peer : PeerPast). record peer { parted = false }) pasts) (map unparted peers)
  unparted_stand pasts peers all =
      zip_both PeerStands PeerStands (λ (peer : PeerPast). record peer { parted = false }) unparted (λ past peer is.
      record { conf = is.conf; limits = is.limits; tape = is.tape; places = is.places; parted = refl }) pasts peers all

  pub stands_begun : (world new : Stations D g) (past : Past) → Stands world past
      → new.peers.items ≡ map unparted world.peers.items → new.intake ≡ world.intake → new.last ≡ world.last
      → new.begun ≡ Some world.last → Stands new (begun_at past)
  stands_begun world new past stands peers intake last begun = record {
    peers = subst (λ (ps : List (Peer D g)). AllZip PeerStands (begun_at past).peers ps) (sym peers)
        (unparted_stand past.peers world.peers.items stands.peers);
    intake = subst (λ (t : Tape D g). TapeStands past.intake t) (sym intake) stands.intake;
    last = last ∙ stands.last;
    begun = begun ∙ ap Some stands.last;
    sound = sound_begun past stands.sound;
  }
