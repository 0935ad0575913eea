-- What one turn does to a chain.
use Rattle.std.proofs.Common.{◌≡◌, ℕ, ◌≤◌, true, false, List, [], ◌∷◌, ◌++◌, length, take, refl, sym, subst, ap}
use Rattle.std.proofs.Common.{◌∙◌, Option, Some, None, Result, Ok, Err, inl, inr}
use Rattle.std.specs.Prelude.{◌&&◌, ◌⊎◌, not, is_some, OnOk, OnErr}
use Rattle.std.proofs.lemmas.List.{length-take-le}
use Rattle.conn_core.specs.History.{Event, Broke, output, after}
use Rattle.conn_core.specs.Receipt.{Receives, ReceivesSome}
use Rattle.conn_core.specs.Stands.{StandsFor}
use Rattle.conn_core.specs.State.{Holding}
use Rattle.conn_core.specs.declared.options.Options.{Options}
use Rattle.event_loop.specs.Link.{moved, is_wait, Tells}
use Rattle.event_loop.specs.Chain.{Input, Is_received, Is_refused, Moves, Sends_on, Takes_on, TakesIn, after_send}
use Rattle.event_loop.specs.Chain.{Sends, Gets}
use Rattle.event_loop.specs.Chain.{Step, Send, Receipt, are_turns, is_rest, left_by}
use Rattle.event_loop.specs.declared.moved.Moved.{Moved}
use Rattle.event_loop.specs.declared.moved.Moved.TheVariants.{Done, Later, Closed, Fault}

-- what came was received, or memory was refused
pub input_made : {T E : Type 0} (r : Result T E) (conn new : Holding) (octets : List ℕ)
    → OnOk r ((options : Options) (unread : List ℕ) (h : List Event) → StandsFor options conn unread h
    → (later : List Event) × (left : List ℕ) × Receives options (unread ++ octets) h later left
    × StandsFor options new left later)
    → OnErr r ((options : Options) (unread : List ℕ) (h : List Event) → StandsFor options conn unread h
    → (later : List Event) × ReceivesSome options (unread ++ octets) h later
    × StandsFor options new [] (after options later Broke))
    → (options : Options) (unread : List ℕ) (h : List Event) → StandsFor options conn unread h
    → (left : List ℕ) × (later : List Event) × StandsFor options new left later
    × Input options (unread ++ octets) h left later
input_made (Ok x) conn new octets received refused options unread h stands =
    let a = received options unread h stands in (a.1, a.0, a.3, Is_received a.0 a.1 a.2)
input_made (Err e) conn new octets received refused options unread h stands =
    let a = refused options unread h stands in ([], after options a.0 Broke, a.2, Is_refused a.0 a.1)

-- a turn: a send, and a receipt
pub turn : {L : Type 0} (took gave : L → Option (List ℕ)) (takes : L → List ℕ → Moved → L → Type 0)
    (gives : L → ℕ → Moved → L → Type 0) (options : Options) (room : ℕ) (unread : List ℕ) (h : List Event)
    (link between sent new : L) (steps : List Step) (left rest : List ℕ) (mid later : List Event) (out into : Moved)
    (buffer : List ℕ)
    → Moves took gave takes gives options room unread h link steps left mid between
    → Sends took takes (output options mid) between out sent → gave sent ≡ gave between
    → gives sent room into new → moved into ≤ length buffer
    → Tells (gave sent) (take (moved into) buffer) (gave new) → took new ≡ took sent
    → TakesIn options into (take (moved into) buffer) (left_by out left) (after_send options mid out) rest later
    → Moves took gave takes gives options room unread h link (Receipt into ∷ Send out ∷ steps) rest later new
turn took gave takes gives options room unread h link between sent new steps left rest mid later out into buffer
    moves sends same_gave asks few told same_took comes =
    let gets : Gets gave gives room sent into (take (moved into) buffer) new =
    record { asks = asks; count = length-take-le (moved into) buffer few; told = told } in
    Takes_on (Send out ∷ steps) (left_by out left) rest (after_send options mid out) later sent new into
    (take (moved into) buffer) (Sends_on steps left mid between sent out moves sends same_gave) gets same_took comes

-- a turn after turns of which the last was no rest
pub behind : (steps : List Step) → are_turns steps ≡ true → is_rest steps ≡ false
    → (not (is_rest steps) && are_turns steps) ≡ true
behind steps turns moves = ap (λ b. not b && are_turns steps) moves ∙ turns

either : {A B C : Type 0} → A ⊎ B → (B → C) → A ⊎ C
either (inl a) to = inl a
either (inr b) to = inr (to b)

-- a turn in which neither half could move: there is nothing to send or the link takes nothing, and it gives nothing
pub rest : {full still dry : Type 0} (options : Options) (mid later : List Event) (left behind octets : List ℕ)
    (out into : Moved) → (is_wait out && is_wait into) ≡ true
    → (out ≡ Later → (output options mid ≡ []) ⊎ full) → (full → still) → (into ≡ Later → dry)
    → TakesIn options into octets (left_by out left) (after_send options mid out) behind later
    → ((output options later ≡ []) ⊎ still) × dry
rest {still = still} options mid later left behind octets Later Later both fills keeps dries takes =
    (subst (λ h. (output options h ≡ []) ⊎ still) (sym takes.1) (either (fills refl) keeps), dries refl)
rest options mid later left behind octets Later (Done n) both fills keeps dries takes = cc
rest options mid later left behind octets Later Closed both fills keeps dries takes = cc
rest options mid later left behind octets Later Fault both fills keeps dries takes = cc
rest options mid later left behind octets (Done n) into both fills keeps dries takes = cc
rest options mid later left behind octets Closed into both fills keeps dries takes = cc
rest options mid later left behind octets Fault into both fills keeps dries takes = cc

-- nothing is there
pub none_there : {A : Type 0} (x : Option A) → is_some x ≡ false → x ≡ None
none_there None e = refl
none_there (Some a) e = cc
