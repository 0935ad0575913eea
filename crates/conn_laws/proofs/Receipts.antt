-- Octets that come in are received in one way only, in whatever pieces they come; and a found article is handed in as
-- one thing only.
use Rattle.std.proofs.Common.{◌≡◌, ℕ, true, List, [], ◌∷◌, ◌++◌, refl, sym, ap, subst, ◌∙◌, Option, Some, None}
use Rattle.std.proofs.Common.{append_assoc}
use Rattle.std.specs.Prelude.{is_some}
use Rattle.std.proofs.lemmas.Bool.{false≢true}
use Rattle.funnel.specs.Stream.{IsUnended}
use Rattle.funnel.specs.StreamLaws.{first_line_once, whole_line_ends}
use Rattle.dot_codec.specs.Block.{written}
use Rattle.dot_codec.specs.TextLaws.{lines_once}
use Rattle.article_store.specs.declared.store.Found.{Found}
use Rattle.article_store.specs.declared.store.Found.TheVariants.{Article, Gone as NotThere, Unsendable as Unfit}
use Rattle.reply_reader.specs.Reply.{IsReplyLine, IsNoReply}
use Rattle.reply_reader.specs.Stream.{BeginsWithReply, Given, IsAnswer, IsShort}
use Rattle.reply_reader.specs.declared.fault.ReplyFault.{ReplyFault}
use Rattle.reply_reader.specs.declared.fault.ReplyFault.TheVariants.{TooLong, NoCode, NoMemory, Failed}
use Rattle.reply_reader.specs.LengthLaws.{part-is-not-long, short-is-not-long}
use Rattle.reply_reader.specs.LineLaws.{line-apart, line-once}
use Rattle.conn_core.specs.Commands.{Handing, Sendable, Gone, Unsendable}
use Rattle.conn_core.specs.History.{Event, Came, Faulted, first_reason, reason, after}
use Rattle.conn_core.specs.Receipt.{BeginsWithFault, IsHandedAs, Receives, Is_closed, Waits, Reads, Fails}
use Rattle.conn_core.specs.declared.options.Options.{Options}
use Rattle.conn_core.specs.declared.reason.Reason.{Reason}
use Rattle.conn_core.specs.declared.reason.Reason.TheVariants.{Reader}
use Rattle.conn_core.specs.ClosingLaws.{reason-after}

abbrev made : ℕ → Option (List ℕ) → List ℕ → Given
made code id text = record { code = code; id = id; text = text }

-- a line is one answer
answer-once : (line line' : List ℕ) (a b : Given) → line ≡ line' → IsAnswer line a → IsAnswer line' b → a ≡ b
answer-once line line' a b e p q =
    let moved : IsReplyLine line b.code b.id b.text = subst (λ l. IsReplyLine l b.code b.id b.text) (sym e) q.1 in
    let same = line-once line a.code b.code a.id b.id a.text b.text p.1 moved in
    ap (λ code. made code a.id a.text) same.0 ∙ ap (λ id. made b.code id a.text) same.1 ∙ ap (λ text. made b.code b.id text) same.2

-- octets begin with at most one reply
reply-once : (waiting rest rest' : List ℕ) (a b : Given) → BeginsWithReply waiting a rest → BeginsWithReply waiting b rest' → (a ≡ b) × (rest ≡ rest')
reply-once waiting rest rest' a b (line, parts, says) (line', parts', says') =
    let cut = first_line_once line line' rest rest' says.0.line says'.0.line (sym parts ∙ parts') in
    (answer-once line line' a b cut.0 says says', cut.1)

-- octets that wait for an LF begin with no reply
short-no-reply : (waiting rest : List ℕ) (reply : Given) → IsShort waiting → BeginsWithReply waiting reply rest → ⊥
short-no-reply waiting rest reply short (line, parts, says) = whole_line_ends line rest (subst (λ o. IsUnended o) parts short.line)

-- nor with a fault
short-no-fault : (waiting : List ℕ) (fault : ReplyFault) → IsShort waiting → BeginsWithFault waiting fault → ⊥
short-no-fault waiting TooLong short long = part-is-not-long waiting short long
short-no-fault waiting NoCode short (line, rest, parts, few, none) = whole_line_ends line rest (subst (λ o. IsUnended o) parts short.line)
short-no-fault waiting NoMemory short f = f
short-no-fault waiting Failed short f = f

-- nor do those that begin with a reply
reply-no-fault : (waiting rest : List ℕ) (reply : Given) (fault : ReplyFault) → BeginsWithReply waiting reply rest → BeginsWithFault waiting fault → ⊥
reply-no-fault waiting rest reply TooLong (line, parts, says) long = short-is-not-long waiting line rest parts says.0 long
reply-no-fault waiting rest reply NoCode (line, parts, says) (line', rest', parts', few, none) =
    let cut = first_line_once line line' rest rest' says.0.line few.line (sym parts ∙ parts') in
    line-apart line reply.code reply.id reply.text says.1 (subst (λ l. IsNoReply l) (sym cut.0) none)
reply-no-fault waiting rest reply NoMemory says f = f
reply-no-fault waiting rest reply Failed says f = f

-- octets begin with at most one fault
fault-once : (waiting : List ℕ) (a b : ReplyFault) → BeginsWithFault waiting a → BeginsWithFault waiting b → a ≡ b
fault-once waiting TooLong TooLong p q = refl
fault-once waiting TooLong NoCode p (line, rest, parts, few, none) = absurd (short-is-not-long waiting line rest parts few p)
fault-once waiting TooLong NoMemory p q = absurd q
fault-once waiting TooLong Failed p q = absurd q
fault-once waiting NoCode TooLong (line, rest, parts, few, none) q = absurd (short-is-not-long waiting line rest parts few q)
fault-once waiting NoCode NoCode p q = refl
fault-once waiting NoCode NoMemory p q = absurd q
fault-once waiting NoCode Failed p q = absurd q
fault-once waiting NoMemory b p q = absurd p
fault-once waiting Failed b p q = absurd p

shut-not-open : (r : Option Reason) → is_some r ≡ true → r ≡ None → ⊥
shut-not-open None e q = false≢true e
shut-not-open (Some why) e q = cc

-- after the close nothing is taken and nothing held back
closed-still : (options : Options) (waiting left : List ℕ) (h later : List Event) → Receives options waiting h later left → is_some (reason options h) ≡ true
    → (later ≡ h) × (left ≡ [])
closed-still options waiting left h later (Is_closed w g shut) e = (refl, refl)
closed-still options waiting left h later (Waits w g running short) e = absurd (shut-not-open (reason options g) e running)
closed-still options waiting left h later (Reads w rest l g last reply running begins more) e = absurd (shut-not-open (reason options g) e running)
closed-still options waiting left h later (Fails w g fault running begins) e = absurd (shut-not-open (reason options g) e running)

some-now : (r : Option Reason) (why : Reason) → is_some (first_reason r (Some why)) ≡ true
some-now None why = refl
some-now (Some first) why = refl

-- a fault closes
fault-shuts : (options : Options) (h : List Event) (fault : ReplyFault) → is_some (reason options (after options h (Faulted fault))) ≡ true
fault-shuts options h fault =
    subst (λ (r : Option Reason). is_some r ≡ true) (sym (reason-after options h (Faulted fault))) (some-now (reason options h) (Reader fault))

-- more octets at the end
begins-more : (waiting rest second : List ℕ) (reply : Given) → BeginsWithReply waiting reply rest → BeginsWithReply (waiting ++ second) reply (rest ++ second)
begins-more waiting rest second reply (line, parts, says) = (line, ap (λ u. u ++ second) parts ∙ append_assoc line (10 ∷ rest) second, says)

fault-more : (waiting second : List ℕ) (fault : ReplyFault) → BeginsWithFault waiting fault → BeginsWithFault (waiting ++ second) fault
fault-more waiting second TooLong (prefix, rest, parts, len, lacks) =
    (prefix, rest ++ second, ap (λ u. u ++ second) parts ∙ append_assoc prefix rest second, len, lacks)
fault-more waiting second NoCode (line, rest, parts, few, none) =
    (line, rest ++ second, ap (λ u. u ++ second) parts ∙ append_assoc line (10 ∷ rest) second, few, none)
fault-more waiting second NoMemory f = f
fault-more waiting second Failed f = f

-- two pieces, one after another, are received as they are as one
joined-all : (options : Options) (waiting left second rest : List ℕ) (h later last : List Event) → Receives options waiting h later left
    → Receives options (left ++ second) later last rest → Receives options (waiting ++ second) h last rest
joined-all options waiting left second rest h later last (Is_closed w g shut) r =
    let still = closed-still options second rest g last r shut in
    let all : Receives options (w ++ second) g g [] = Is_closed (w ++ second) g shut in
    subst (λ l. Receives options (w ++ second) g l rest) (sym still.0) (subst (λ l. Receives options (w ++ second) g g l) (sym still.1) all)
joined-all options waiting left second rest h later last (Waits w g running short) r = r
joined-all options waiting left second rest h later last (Reads w behind l g end reply running begins more) r =
    Reads (w ++ second) (behind ++ second) rest g last reply running (begins-more w behind second reply begins)
    (joined-all options behind l second rest (after options g (Came reply)) end last more r)
joined-all options waiting left second rest h later last (Fails w g fault running begins) r =
    let still = closed-still options second rest (after options g (Faulted fault)) last r (fault-shuts options g fault) in
    let all : Receives options (w ++ second) g (after options g (Faulted fault)) [] = Fails (w ++ second) g fault running (fault-more w second fault begins) in
    subst (λ l. Receives options (w ++ second) g l rest) (sym still.0) (subst (λ l. Receives options (w ++ second) g (after options g (Faulted fault)) l) (sym still.1) all)

pub joined : (options : Options) (unread first left second rest : List ℕ) (h later last : List Event)
    → Receives options (unread ++ first) h later left → Receives options (left ++ second) later last rest
    → Receives options (unread ++ (first ++ second)) h last rest
joined options unread first left second rest h later last p q =
    subst (λ w. Receives options w h last rest) (append_assoc unread first second) (joined-all options (unread ++ first) left second rest h later last p q)

-- what waits for an LF stays
waits-once : (options : Options) (waiting rest : List ℕ) (h last : List Event) → Receives options waiting h last rest → reason options h ≡ None → IsShort waiting
    → (last ≡ h) × (rest ≡ waiting)
waits-once options waiting rest h last (Is_closed w g shut) still few = absurd (shut-not-open (reason options g) shut still)
waits-once options waiting rest h last (Waits w g running short) still few = (refl, refl)
waits-once options waiting rest h last (Reads w behind l g end reply running begins more) still few = absurd (short-no-reply w behind reply few begins)
waits-once options waiting rest h last (Fails w g fault running begins) still few = absurd (short-no-fault w fault few begins)

-- a whole reply is taken
reads-once : (options : Options) (waiting rest behind : List ℕ) (h last : List Event) (reply : Given) → Receives options waiting h last rest → reason options h ≡ None
    → BeginsWithReply waiting reply behind → Receives options behind (after options h (Came reply)) last rest
reads-once options waiting rest behind h last reply (Is_closed w g shut) still says = absurd (shut-not-open (reason options g) shut still)
reads-once options waiting rest behind h last reply (Waits w g running short) still says = absurd (short-no-reply w behind reply short says)
reads-once options waiting rest behind h last reply (Reads w other l g end reply' running begins more) still says =
    let same = reply-once w other behind reply' reply begins says in
    subst (λ r. Receives options behind (after options g (Came r)) end l) same.0
    (subst (λ b. Receives options b (after options g (Came reply')) end l) same.1 more)
reads-once options waiting rest behind h last reply (Fails w g fault running begins) still says = absurd (reply-no-fault w behind reply fault says begins)

-- a fault is found
fails-once : (options : Options) (waiting rest : List ℕ) (h last : List Event) (fault : ReplyFault) → Receives options waiting h last rest → reason options h ≡ None
    → BeginsWithFault waiting fault → (last ≡ after options h (Faulted fault)) × (rest ≡ [])
fails-once options waiting rest h last fault (Is_closed w g shut) still fails = absurd (shut-not-open (reason options g) shut still)
fails-once options waiting rest h last fault (Waits w g running short) still fails = absurd (short-no-fault w fault short fails)
fails-once options waiting rest h last fault (Reads w behind l g end reply running begins more) still fails = absurd (reply-no-fault w behind reply fault begins fails)
fails-once options waiting rest h last fault (Fails w g other running begins) still fails =
    (ap (λ f. after options g (Faulted f)) (fault-once w other fault begins fails), refl)

-- octets are received in one way only
pub received_once : (options : Options) (waiting left rest : List ℕ) (h later last : List Event) → Receives options waiting h later left
    → Receives options waiting h last rest → (later ≡ last) × (left ≡ rest)
received_once options waiting left rest h later last (Is_closed w g shut) r =
    let still = closed-still options w rest g last r shut in (sym still.0, sym still.1)
received_once options waiting left rest h later last (Waits w g running short) r =
    let still = waits-once options w rest g last r running short in (sym still.0, sym still.1)
received_once options waiting left rest h later last (Reads w behind l g end reply running begins more) r =
    received_once options behind l rest (after options g (Came reply)) end last more (reads-once options w rest behind g last reply r running begins)
received_once options waiting left rest h later last (Fails w g fault running begins) r =
    let still = fails-once options w rest g last fault r running begins in (sym still.0, sym still.1)

-- a found article is handed in as one thing
pub handed_as_one : (found : Found) (handing other : Handing) → IsHandedAs found handing → IsHandedAs found other → handing ≡ other
handed_as_one (Article text) (Sendable a) (Sendable b) p q =
    let same : p.1.0 ≡ q.1.0 = lines_once _ p.1.0 q.1.0 p.1.1 q.1.1 in
    ap Sendable (p.1.2 ∙ ap written same ∙ sym q.1.2)
handed_as_one (Article text) (Sendable a) Gone p q = absurd q
handed_as_one (Article text) (Sendable a) Unsendable p q = absurd (q p.0)
handed_as_one (Article text) Gone other p q = absurd p
handed_as_one (Article text) Unsendable (Sendable b) p q = absurd (p q.0)
handed_as_one (Article text) Unsendable Gone p q = absurd q
handed_as_one (Article text) Unsendable Unsendable p q = refl
handed_as_one NotThere (Sendable a) other p q = absurd p
handed_as_one NotThere Gone (Sendable b) p q = absurd q
handed_as_one NotThere Gone Gone p q = refl
handed_as_one NotThere Gone Unsendable p q = absurd q
handed_as_one NotThere Unsendable other p q = absurd p
handed_as_one Unfit (Sendable a) other p q = absurd p
handed_as_one Unfit Gone other p q = absurd p
handed_as_one Unfit Unsendable (Sendable b) p q = absurd q
handed_as_one Unfit Unsendable Gone p q = absurd q
handed_as_one Unfit Unsendable Unsendable p q = refl
