-- What is read lies within the bounds of its keys, and so does what is looked up.
use Rattle.std.proofs.Common.{◌≡◌, ◌≤◌, ◌<◌, ◌*◌, ◌^◌, ◌+◌, ◌==◌, ◌&&◌, ◌++◌, ℕ, Bool, true, false, not, List, [], ◌∷◌}
use Rattle.std.proofs.Common.{Option, None, Some, Result, Ok, Err, unwrap_or, cond, ltb, refl, ap, sym, ◌∙◌, subst}
use Rattle.std.proofs.Common.{arith}
use Rattle.std.specs.List.{slice_get}
use Rattle.std.proofs.lemmas.Bool.{ltb-false, and_parts, eqb-true}
use Rattle.std.proofs.Math.Nat.{mul-le-mul_left, mul-le-mul_right}
use Rattle.feed_conf.specs.Items.{Item, Peer, Group, Closes, Uses, Stops}
use Rattle.feed_conf.specs.Keys.{row_of, key_of, all_keys}
use Rattle.feed_conf.specs.Values.{Value, TextOf, SwitchOf, NumberOf, Taken, bounded, connections, switched, text}
use Rattle.feed_conf.specs.Values.{taken_of, switch_of, number_of, whole_of, hundredths_of}
use Rattle.feed_conf.specs.Reading.{Use, Declared, State, start, innermost, number_in, is_in_peer, is_in_block}
use Rattle.feed_conf.specs.Reading.{is_declared, declare, open_block, block_at, close_block, report, use_key, use_value}
use Rattle.feed_conf.specs.Reading.{use_taken, step, at_line, then_on, run_line, run_lines}
use Rattle.feed_conf.specs.Reading.{closed, finish}
use Rattle.funnel.specs.Names.{is_peer_name}
use Rattle.feed_conf.specs.Settings.{number, later, value_at, last_value, path_of, value_along, value_of}
use Rattle.feed_conf.specs.Bounds.{greatest, AreBounded}
use Rattle.feed_conf.specs.declared.key.SettingKey.{SettingKey}
use Rattle.feed_conf.specs.declared.key.SettingKey.TheVariants.{IpName, PortNumber, Streaming, MaxConnections}
use Rattle.feed_conf.specs.declared.key.SettingKey.TheVariants.{MaxQueueSize}
use Rattle.feed_conf.specs.declared.key.SettingKey.TheVariants.{NoCheckHigh, NoCheckLow, NoCheckFilter, ResponseTimeout}
use Rattle.feed_conf.specs.declared.key.SettingKey.TheVariants.{InitialReconnectTime, MaxReconnectTime, DropDeferred}
use Rattle.feed_conf.specs.declared.key.SettingKey.TheVariants.{BacklogLimit, BacklogLimitHighwater, BacklogFactor}
use Rattle.feed_conf.specs.declared.key.SettingKey.TheVariants.{NewsSpool}
use Rattle.feed_conf.specs.declared.key.SettingKey.TheVariants.{BacklogDirectory, StatusFile, UnknownLimit}
use Rattle.feed_conf.specs.declared.key.SettingKey.TheVariants.{InndSpool, InndCycbuffs, SyncSpool}
use Rattle.feed_conf.specs.declared.key.SettingKey.TheVariants.{AuthinfoFile, StatusJson, MetricsFile, StatusPeriod}
use Rattle.feed_conf.specs.declared.key.Kind.{Kind}
use Rattle.feed_conf.specs.declared.key.Kind.TheVariants.{AnyText, ShortText, Switch, Connections, Number, Whole}
use Rattle.feed_conf.specs.declared.key.Kind.TheVariants.{Fraction}
use Rattle.feed_conf.specs.declared.reader.OpenBlock.{OpenBlock}
use Rattle.feed_conf.specs.declared.fault.ConfFault.{ConfFault}
use Rattle.feed_conf.specs.declared.fault.ConfFaultKind.{ConfFaultKind}
use Rattle.feed_conf.specs.declared.fault.ConfFaultKind.TheVariants.{Range, Unbalanced, BadPeerName, SamePeer}

-- ---- one value

abbrev good : Taken → Result Taken ConfFaultKind
good taken = Ok taken

abbrev bad : Result Taken ConfFaultKind
bad = Err Range

abbrev held : Value → Bool → Taken
held value limited = record { value = value; limited = limited }

taken-at : (value : Value) (limited : Bool) (most : ℕ) (taken : Taken) → good (held value limited) ≡ Ok taken
    → number value ≤ most → number taken.value ≤ most
taken-at value limited most taken e h =
    let same : held value limited ≡ taken = cc in
    subst (λ (t : Taken). number t.value ≤ most) same h

bounded-step : (low high : Bool) (most n : ℕ) (taken : Taken) → ltb most n ≡ high →
    cond low bad (cond high (good (held (NumberOf most) true)) (good (held (NumberOf n) false))) ≡ Ok taken
    → number taken.value ≤ most
bounded-step true high most n taken h e = cc
bounded-step false true most n taken h e = taken-at (NumberOf most) true most taken e (omega arith)
bounded-step false false most n taken h e = taken-at (NumberOf n) false most taken e (ltb-false most n h)

bounded-within : (least most : ℕ) (o : Option ℕ) (taken : Taken) → bounded least most o ≡ Ok taken
    → number taken.value ≤ most
bounded-within least most None taken e = cc
bounded-within least most (Some n) taken e = bounded-step (ltb n least) (ltb most n) most n taken refl e

connections-step : (none : Bool) (n : ℕ) (taken : Taken)
    → cond none (good (held (NumberOf 64) true)) (bounded 0 64 (Some n)) ≡ Ok taken → number taken.value ≤ 64
connections-step true n taken e = taken-at (NumberOf 64) true 64 taken e (omega arith)
connections-step false n taken e = bounded-within 0 64 (Some n) taken e

connections-within : (o : Option ℕ) (taken : Taken) → connections o ≡ Ok taken → number taken.value ≤ 64
connections-within None taken e = cc
connections-within (Some n) taken e = connections-step (n == 0) n taken e

short-step : (fits : Bool) (octets : List ℕ) (taken : Taken) → cond fits (text octets) bad ≡ Ok taken
    → number taken.value ≤ 0
short-step true octets taken e = taken-at (TextOf octets) false 0 taken e (omega arith)
short-step false octets taken e = cc

switched-within : (o : Option Bool) (taken : Taken) → switched o ≡ Ok taken → number taken.value ≤ 0
switched-within None taken e = cc
switched-within (Some on) taken e = taken-at (SwitchOf on) false 0 taken e (omega arith)

taken-within : (kind : Kind) (octets : List ℕ) (taken : Taken) → taken_of kind octets ≡ Ok taken
    → number taken.value ≤ greatest kind
taken-within AnyText octets taken e = taken-at (TextOf octets) false 0 taken e (omega arith)
taken-within ShortText octets taken e = short-step _ octets taken e
taken-within Switch octets taken e = switched-within (switch_of octets) taken e
taken-within Connections octets taken e = connections-within (number_of octets) taken e
taken-within (Number least most) octets taken e = bounded-within least most (number_of octets) taken e
taken-within (Whole least most) octets taken e = bounded-within least most (whole_of octets) taken e
taken-within (Fraction least most) octets taken e = bounded-within least most (hundredths_of octets) taken e

-- ---- the uses of a text

one-more : (uses : List Use) (entry : Use) → AreBounded uses → number entry.value ≤ greatest (row_of entry.key).kind
    → AreBounded (uses ++ entry ∷ [])
one-more [] entry h k = (k, tt)
one-more (first ∷ uses) entry h k = (h.0, one-more uses entry h.1 k)

abbrev made_as : State → Result State ConfFaultKind
made_as state = Ok state

abbrev stopped : ConfFaultKind → Result State ConfFaultKind
stopped kind = Err kind

abbrev read_as : State → Result State ConfFault
read_as state = Ok state

-- a state with the same uses is bounded too
same-uses : (state made next : State) → AreBounded state.uses → made.uses ≡ state.uses → made_as made ≡ Ok next
    → AreBounded next.uses
same-uses state made next h same e =
    let is : made ≡ next = cc in
    subst (λ (s : State). AreBounded s.uses) is (subst AreBounded (sym same) h)

peer-step : (inside named declared braced : Bool) (state made next : State) (one two three four : ConfFaultKind)
    → AreBounded state.uses → made.uses ≡ state.uses →
    cond inside (stopped one)
    (cond named (stopped two)
    (cond declared (stopped three) (cond braced (made_as made) (stopped four)))) ≡ Ok next → AreBounded next.uses
peer-step true named declared braced state made next one two three four h same e = cc
peer-step false true declared braced state made next one two three four h same e = cc
peer-step false false true braced state made next one two three four h same e = cc
peer-step false false false true state made next one two three four h same e = same-uses state made next h same e
peer-step false false false false state made next one two three four h same e = cc

group-step : (inside : Bool) (state made next : State) (kind : ConfFaultKind) → AreBounded state.uses
    → made.uses ≡ state.uses → cond inside (stopped kind) (made_as made) ≡ Ok next → AreBounded next.uses
group-step true state made next kind h same e = cc
group-step false state made next kind h same e = same-uses state made next h same e

close-step : (block : Option OpenBlock) (state next : State) → AreBounded state.uses
    → close_block block state ≡ Ok next → AreBounded next.uses
close-step None state next h e = cc
close-step (Some block) state next h e = same-uses state _ next h refl e

limited-step : (limited : Bool) (more : State) (line : ℕ) (name value : List ℕ) → AreBounded more.uses
    → AreBounded (cond limited (report more line name value true) more).uses
limited-step true more line name value h = h
limited-step false more line name value h = h

take-step : (state next : State) (line : ℕ) (name : List ℕ) (key : SettingKey) (r : Result Taken ConfFaultKind)
    (octets : List ℕ) → AreBounded state.uses → taken_of (row_of key).kind octets ≡ r →
    use_taken state line name octets key r ≡ Ok next → AreBounded next.uses
take-step state next line name key (Err kind) octets h t e = cc
take-step state next line name key (Ok taken) octets h t e =
    let entry : Use =
    record { line = line; block = number_in (innermost state.around); key = key; value = taken.value } in
    let more : State = record state { uses = state.uses ++ entry ∷ [] } in
    let is : cond taken.limited (report more line name octets true) more ≡ next = cc in
    subst (λ (s : State). AreBounded s.uses) is
    (limited-step taken.limited more line name octets
    (one-more state.uses entry h (taken-within (row_of key).kind octets taken t)))

value-step : (state next : State) (line : ℕ) (name : List ℕ) (key : SettingKey) (value : Option (List ℕ))
    → AreBounded state.uses → use_value state line name key value ≡ Ok next → AreBounded next.uses
value-step state next line name key None h e = cc
value-step state next line name key (Some octets) h e =
    take-step state next line name key (taken_of (row_of key).kind octets) octets h refl e

file-step : (ignored : Bool) (state next : State) (line : ℕ) (name : List ℕ) (key : SettingKey) (value : Option (List
    ℕ))
    → AreBounded state.uses →
    cond ignored (made_as (report state line name (unwrap_or value []) false))
    (use_value state line name key value) ≡ Ok next
    → AreBounded next.uses
file-step true state next line name key value h e =
    same-uses state (report state line name (unwrap_or value []) false) next h refl e
file-step false state next line name key value h e = value-step state next line name key value h e

key-step : (state next : State) (line : ℕ) (name : List ℕ) (value : Option (List ℕ)) (key : Option SettingKey)
    → AreBounded state.uses → use_key state line name value key ≡ Ok next → AreBounded next.uses
key-step state next line name value None h e =
    same-uses state (report state line name (unwrap_or value []) false) next h refl e
key-step state next line name value (Some key) h e =
    file-step ((row_of key).of_file && is_in_block (innermost state.around)) state next line name key value h e

step-bounded : (state next : State) (line : ℕ) (item : Item) → AreBounded state.uses → step state line item ≡ Ok next
    → AreBounded next.uses
step-bounded state next line (Peer name braced) h e =
    peer-step (is_in_peer (innermost state.around)) (not (is_peer_name name))
    (is_declared name state.peers) braced state
    (declare state line name) next Unbalanced BadPeerName SamePeer Unbalanced h refl e
step-bounded state next line Group h e =
    group-step (is_in_peer (innermost state.around)) state
    (open_block state (block_at state line false)) next Unbalanced h refl e
step-bounded state next line Closes h e = close-step (innermost state.around) state next h e
step-bounded state next line (Uses name value) h e = key-step state next line name value (key_of name) h e
step-bounded state next line (Stops stop) h e = cc

same-state : (state next : State) → AreBounded state.uses → read_as state ≡ Ok next → AreBounded next.uses
same-state state next h e =
    let is : state ≡ next = cc in
    subst (λ (s : State). AreBounded s.uses) is h

line-then : (r : Result State ConfFaultKind) (follows : State → Result State ConfFault) (next : State) (line : ℕ)
    → ((state : State) → r ≡ Ok state → AreBounded state.uses) →
    ((state : State) → AreBounded state.uses → follows state ≡ Ok next → AreBounded next.uses)
    → at_line line r follows ≡ Ok next → AreBounded next.uses
line-then (Err kind) follows next line h k e = cc
line-then (Ok state) follows next line h k e = k state (h state refl) e

line-bounded : (items : List Item) (state next : State) (line : ℕ) → AreBounded state.uses
    → run_line items state line ≡ Ok next → AreBounded next.uses
line-bounded [] state next line h e = same-state state next h e
line-bounded (item ∷ items) state next line h e =
    line-then (step state line item) (λ s. run_line items s line) next line (λ s k. step-bounded state s line item h k)
    (λ s k f. line-bounded items s next line k f) e

lines-then : (r : Result State ConfFault) (follows : State → Result State ConfFault) (next : State)
    → ((state : State) → r ≡ Ok state → AreBounded state.uses) →
    ((state : State) → AreBounded state.uses → follows state ≡ Ok next → AreBounded next.uses)
    → then_on r follows ≡ Ok next → AreBounded next.uses
lines-then (Err fault) follows next h k e = cc
lines-then (Ok state) follows next h k e = k state (h state refl) e

lines-bounded : (lines : List (List Item)) (state next : State) (line : ℕ) → AreBounded state.uses
    → run_lines lines state line ≡ Ok next → AreBounded next.uses
lines-bounded [] state next line h e = same-state state next h e
lines-bounded (items ∷ lines) state next line h e =
    lines-then (run_line items state line) (λ s. run_lines lines s (line + 1)) next
    (λ s k. line-bounded items state s line h k)
    (λ s k f. lines-bounded lines s next (line + 1) k f) e

closed-step : (block : Option OpenBlock) (state next : State) → AreBounded state.uses → closed block state ≡ Ok next
    → AreBounded next.uses
closed-step None state next h e = same-state state next h e
closed-step (Some block) state next h e = cc

-- the uses of lines that can be read are bounded
pub reading-bounded : (lines : List (List Item)) (state : State)
    → then_on (run_lines lines start 1) finish ≡ Ok state → AreBounded state.uses
reading-bounded lines state e =
    lines-then (run_lines lines start 1) finish state (λ s k. lines-bounded lines start s 1 tt k)
    (λ s k f. closed-step (innermost s.around) s state k f) e

-- ---- what is looked up

index-key : (key : SettingKey) → slice_get all_keys (row_of key).index ≡ Some key
index-key IpName = refl
index-key PortNumber = refl
index-key Streaming = refl
index-key MaxConnections = refl
index-key MaxQueueSize = refl
index-key NoCheckHigh = refl
index-key NoCheckLow = refl
index-key NoCheckFilter = refl
index-key ResponseTimeout = refl
index-key InitialReconnectTime = refl
index-key MaxReconnectTime = refl
index-key DropDeferred = refl
index-key BacklogLimit = refl
index-key BacklogLimitHighwater = refl
index-key BacklogFactor = refl
index-key NewsSpool = refl
index-key BacklogDirectory = refl
index-key StatusFile = refl
index-key UnknownLimit = refl
index-key InndSpool = refl
index-key InndCycbuffs = refl
index-key SyncSpool = refl
index-key AuthinfoFile = refl
index-key StatusJson = refl
index-key MetricsFile = refl
index-key StatusPeriod = refl

-- no two keys have one index
index-once : (one other : SettingKey) → (row_of one).index ≡ (row_of other).index → one ≡ other
index-once one other e =
    let both : Some one ≡ Some other = sym (index-key one) ∙ ap (slice_get all_keys) e ∙ index-key other in
    cc

default-within : (key : SettingKey) (name : List ℕ) → number ((row_of key).default name) ≤ greatest (row_of key).kind
default-within IpName name = omega arith
default-within PortNumber name = omega arith
default-within Streaming name = omega arith
default-within MaxConnections name = omega arith
default-within MaxQueueSize name = omega arith
default-within NoCheckHigh name = omega arith
default-within NoCheckLow name = omega arith
default-within NoCheckFilter name = omega arith
default-within ResponseTimeout name = omega arith
default-within InitialReconnectTime name = omega arith
default-within MaxReconnectTime name = omega arith
default-within DropDeferred name = omega arith
default-within BacklogLimit name = omega arith
default-within BacklogLimitHighwater name = omega arith
default-within BacklogFactor name = omega arith
default-within NewsSpool name = omega arith
default-within BacklogDirectory name = omega arith
default-within StatusFile name = omega arith
default-within UnknownLimit name = omega arith
default-within InndSpool name = omega arith
default-within InndCycbuffs name = omega arith
default-within SyncSpool name = omega arith
default-within AuthinfoFile name = omega arith
default-within StatusJson name = omega arith
default-within MetricsFile name = omega arith
default-within StatusPeriod name = omega arith

-- the value, if there is one, is at most the greatest of the key
abbrev IsWithin : SettingKey → Option Value → Type 0
IsWithin key None = Unit {0}
IsWithin key (Some value) = number value ≤ greatest (row_of key).kind

later-within : (key : SettingKey) (one other : Option Value) → IsWithin key one → IsWithin key other
    → IsWithin key (later one other)
later-within key None other h k = k
later-within key (Some value) other h k = h

at-step : (b : Bool) (block : ℕ) (key : SettingKey) (entry : Use)
    → (entry.block == block && (row_of entry.key).index == (row_of key).index) ≡ b →
    number entry.value ≤ greatest (row_of entry.key).kind → IsWithin key (cond b (Some entry.value) None)
at-step false block key entry e h = tt
at-step true block key entry e h =
    let indexes = (and_parts (entry.block == block) ((row_of entry.key).index == (row_of key).index) e).1 in
    subst (λ (k : SettingKey). number entry.value ≤ greatest (row_of k).kind)
    (index-once entry.key key (eqb-true (row_of entry.key).index (row_of key).index indexes)) h

last-within : (uses : List Use) (block : ℕ) (key : SettingKey) → AreBounded uses
    → IsWithin key (last_value block (row_of key).index uses)
last-within [] block key h = tt
last-within (entry ∷ uses) block key h =
    later-within key (last_value block (row_of key).index uses) (value_at block (row_of key).index entry)
    (last-within uses block key h.1)
    (at-step (entry.block == block && (row_of entry.key).index == (row_of key).index) block key entry refl h.0)

along-within : (uses : List Use) (path : List ℕ) (key : SettingKey) → AreBounded uses
    → IsWithin key (value_along (row_of key).index uses path)
along-within uses [] key h = last-within uses 0 key h
along-within uses (block ∷ outer) key h =
    later-within key (last_value block (row_of key).index uses) (value_along (row_of key).index uses outer)
    (last-within uses block key h)
    (along-within uses outer key h)

or-default : (key : SettingKey) (o : Option Value) (name : List ℕ) → IsWithin key o
    → number (unwrap_or o ((row_of key).default name)) ≤ greatest (row_of key).kind
or-default key None name h = default-within key name
or-default key (Some value) name h = h

-- the number that a key has at a peer is at most the greatest of that key
pub value-within : (uses : List Use) (outer : List ℕ) (peer : Declared) (key : SettingKey) → AreBounded uses
    → number (value_of uses outer peer key) ≤ greatest (row_of key).kind
value-within uses outer peer key h =
    or-default key (value_along (row_of key).index uses (path_of outer peer.block)) peer.name
    (along-within uses (path_of outer peer.block) key h)

-- the product of a backlog's limit and its factor fits into 64 bits
pub product-fits : (limit factor : ℕ) → limit ≤ 4294967296 → factor ≤ 10000 → limit * factor < 2 ^ 64
product-fits limit factor h k = omega (arith, mul-le-mul_left limit k, mul-le-mul_right 10000 h)
