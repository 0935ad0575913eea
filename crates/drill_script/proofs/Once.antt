-- A line says at most one thing.
use Rattle.std.proofs.Common.{◌≡◌, ◌≢◌, ◌==◌, ℕ, Bool, true, false, List, [], ◌∷◌, ◌++◌, Option, None, Some, inl}
use Rattle.std.proofs.Common.{inr, refl, sym, subst, ap, ◌∙◌, get_or}
use Rattle.std.specs.Prelude.{codes, is_some, if◌then◌else◌}
use Rattle.std.specs.Str.{bytes_eq}
use Rattle.std.proofs.lemmas.Bool.{eqb-false}
use Rattle.std.proofs.lemmas.List.Elements.{All-cons}
use Rattle.article_store.specs.declared.store.Found.TheVariants.{Article, Gone, Unsendable}
use Rattle.drill_script.specs.Action.{ActionView, Hands, Receives, Supplies, Breaks, IsWritten}
use Rattle.drill_script.specs.Line.{SentenceView, Blank, Declares, Gives, Takes, GivesText, Says, SaysStep, SaysTape}
use Rattle.drill_script.specs.Parts.{ActionOf, SaysOn, StepOf}
use Rattle.drill_script.specs.Step.{StepView, Lines, Flushes, Begins, Parts, Seals, Connects, Acts, Ticks, Sheds}
use Rattle.drill_script.specs.Step.{Rotates}
use Rattle.drill_script.specs.Step.{Imports, Stops, Arms, Restarts}
use Rattle.drill_script.specs.Words.{IsCut, IsSolid}
use Rattle.drill_script.specs.declared.disk_name.DiskName.{DiskName}
use Rattle.drill_script.proofs.Cuts.{cuts_once, cut_is, cut_longer, solid_from, solid_none}
use Rattle.drill_script.proofs.Forms.{number_solid, step_parts}
use Rattle.drill_script.proofs.Peers.{peer_once}
use Rattle.drill_script.proofs.Tapes.{behind_once, names_once, tape_once}
use Rattle.drill_script.proofs.Writing.{written_once}

-- two numbers that the test finds different
apart : (m n : ℕ) → (m == n) ≡ false → m ≡ n → ⊥
apart m n other same = eqb-false m n other same

-- a number for each word of a step, and 0 for any other
abbrev tag_for : List ℕ → Bool → ℕ
tag_for word behind =
    if bytes_eq word (codes "line") then 1 else (
    if bytes_eq word (codes "flush") then 2 else (
    if bytes_eq word (codes "connect") then 3 else (
    if bytes_eq word (codes "tick") then 4 else (
    if bytes_eq word (codes "shed") then 5 else (
    if bytes_eq word (codes "rotate") then 6 else (
    if bytes_eq word (codes "stop") then (if behind then 8 else 7) else (
    if bytes_eq word (codes "restart") then 9 else (
    if bytes_eq word (codes "begin") then 11 else (
    if bytes_eq word (codes "part") then 12 else (
    if bytes_eq word (codes "seal") then 13 else (
    if bytes_eq word (codes "import") then 14 else (
    if bytes_eq word (codes "hand") then 10 else (
    if bytes_eq word (codes "say") then 10 else (
    if bytes_eq word (codes "raw") then 10 else (
    if bytes_eq word (codes "article") then 10 else (
    if bytes_eq word (codes "break") then 10 else 0))))))))))))))))

abbrev step_tag : StepView → ℕ
step_tag (Lines text) = 1
step_tag Flushes = 2
step_tag (Connects name) = 3
step_tag (Ticks moment) = 4
step_tag (Sheds name) = 5
step_tag (Rotates name) = 6
step_tag Stops = 7
step_tag (Arms armed) = 8
step_tag Restarts = 9
step_tag (Acts number action) = 10
step_tag Begins = 11
step_tag (Parts name) = 12
step_tag Seals = 13
step_tag (Imports name text) = 14

tagged : (step : StepView) → step_tag step ≡ 0 → ⊥
tagged (Lines text) e = apart 1 0 refl e
tagged Flushes e = apart 2 0 refl e
tagged (Connects name) e = apart 3 0 refl e
tagged (Ticks moment) e = apart 4 0 refl e
tagged (Sheds name) e = apart 5 0 refl e
tagged (Rotates name) e = apart 6 0 refl e
tagged Stops e = apart 7 0 refl e
tagged (Arms armed) e = apart 8 0 refl e
tagged Restarts e = apart 9 0 refl e
tagged (Acts number action) e = apart 10 0 refl e
tagged Begins e = apart 11 0 refl e
tagged (Parts name) e = apart 12 0 refl e
tagged Seals e = apart 13 0 refl e
tagged (Imports name text) e = apart 14 0 refl e

-- an action's word
action_tag_is : (word : List ℕ) (text : Option (List ℕ)) (action : ActionView) → ActionOf word text action →
    tag_for word true ≡ 10
action_tag_is word None Hands says = ap (λ w. tag_for w true) says
action_tag_is word None (Receives octets) says = absurd says
action_tag_is word None (Supplies found) says = absurd says
action_tag_is word None Breaks says = ap (λ w. tag_for w true) says
action_tag_is word (Some text) Hands says = absurd says
action_tag_is word (Some text) (Receives octets) (inl say) = ap (λ w. tag_for w true) say.0
action_tag_is word (Some text) (Receives octets) (inr raw) = ap (λ w. tag_for w true) raw.0
action_tag_is word (Some text) (Supplies (Article octets)) says = ap (λ w. tag_for w true) says.0
action_tag_is word (Some text) (Supplies Gone) says = ap (λ w. tag_for w true) says.0
action_tag_is word (Some text) (Supplies Unsendable) says = absurd says
action_tag_is word (Some text) Breaks says = absurd says

-- a step's word
tag_is : (word : List ℕ) (text : Option (List ℕ)) (step : StepView) → StepOf word text step →
    tag_for word (is_some text) ≡ step_tag step
tag_is word None (Lines t) says = ap (λ w. tag_for w false) says.0
tag_is word None Flushes says = ap (λ w. tag_for w false) says
tag_is word None (Connects name) says = absurd says
tag_is word None (Ticks moment) says = absurd says
tag_is word None (Sheds name) says = absurd says
tag_is word None (Rotates name) says = absurd says
tag_is word None Stops says = ap (λ w. tag_for w false) says
tag_is word None (Arms armed) says = absurd says
tag_is word None Restarts says = ap (λ w. tag_for w false) says
tag_is word None (Acts number action) says = absurd says
tag_is word None Begins says = ap (λ w. tag_for w false) says
tag_is word None (Parts name) says = absurd says
tag_is word None Seals says = ap (λ w. tag_for w false) says
tag_is word None (Imports name text) says = absurd says
tag_is word (Some rest) (Lines t) says = ap (λ w. tag_for w true) says.0
tag_is word (Some rest) Flushes says = absurd says
tag_is word (Some rest) (Connects name) says = ap (λ w. tag_for w true) says.0
tag_is word (Some rest) (Ticks moment) says = ap (λ w. tag_for w true) says.0
tag_is word (Some rest) (Sheds name) says = ap (λ w. tag_for w true) says.0
tag_is word (Some rest) (Rotates name) says = ap (λ w. tag_for w true) says.0
tag_is word (Some rest) Stops says = absurd says
tag_is word (Some rest) (Arms armed) says = ap (λ w. tag_for w true) says.0
tag_is word (Some rest) Restarts says = absurd says
tag_is word (Some rest) (Acts number action) says = action_tag_is word says.text action says.says
tag_is word (Some rest) Begins says = absurd says
tag_is word (Some rest) (Parts name) says = ap (λ w. tag_for w true) says.0
tag_is word (Some rest) Seals says = absurd says
tag_is word (Some rest) (Imports name text) says = ap (λ w. tag_for w true) says.0

-- words that begin with different octets
differs : (v w : List ℕ) → (get_or v 0 0 == get_or w 0 0) ≡ false → (word : List ℕ) → word ≡ v → word ≡ w → ⊥
differs v w other word p q = apart (get_or v 0 0) (get_or w 0 0) other (ap (λ (x : List ℕ). get_or x 0 0) (sym p ∙ q))

-- one action
action_once : (word : List ℕ) (text : Option (List ℕ)) (a b : ActionView) → ActionOf word text a →
    ActionOf word text b → a ≡ b
action_once word None Hands Hands p q = refl
action_once word None Hands Breaks p q = absurd (differs (codes "hand") (codes "break") refl word p q)
action_once word None Breaks Hands p q = absurd (differs (codes "break") (codes "hand") refl word p q)
action_once word None Breaks Breaks p q = refl
action_once word None (Receives s) b p q = absurd p
action_once word None (Supplies found) b p q = absurd p
action_once word None a (Receives s) p q = absurd q
action_once word None a (Supplies found) p q = absurd q
action_once word (Some text) (Receives s) (Receives t) (inl p) (inl q) = ap Receives (p.1 ∙ sym q.1)
action_once word (Some text) (Receives s) (Receives t) (inl p) (inr q) =
    absurd (differs (codes "say") (codes "raw") refl word p.0 q.0)
action_once word (Some text) (Receives s) (Receives t) (inr p) (inl q) =
    absurd (differs (codes "raw") (codes "say") refl word p.0 q.0)
action_once word (Some text) (Receives s) (Receives t) (inr p) (inr q) =
    let same : s ≡ t = cc (p.1.1, q.1.1) in
    ap Receives same
action_once word (Some text) (Receives s) (Supplies (Article t)) (inl p) q =
    absurd (differs (codes "say") (codes "article") refl word p.0 q.0)
action_once word (Some text) (Receives s) (Supplies (Article t)) (inr p) q =
    absurd (differs (codes "raw") (codes "article") refl word p.0 q.0)
action_once word (Some text) (Receives s) (Supplies Gone) (inl p) q =
    absurd (differs (codes "say") (codes "article") refl word p.0 q.0)
action_once word (Some text) (Receives s) (Supplies Gone) (inr p) q =
    absurd (differs (codes "raw") (codes "article") refl word p.0 q.0)
action_once word (Some text) (Supplies (Article s)) (Receives t) p (inl q) =
    absurd (differs (codes "article") (codes "say") refl word p.0 q.0)
action_once word (Some text) (Supplies (Article s)) (Receives t) p (inr q) =
    absurd (differs (codes "article") (codes "raw") refl word p.0 q.0)
action_once word (Some text) (Supplies Gone) (Receives t) p (inl q) =
    absurd (differs (codes "article") (codes "say") refl word p.0 q.0)
action_once word (Some text) (Supplies Gone) (Receives t) p (inr q) =
    absurd (differs (codes "article") (codes "raw") refl word p.0 q.0)
action_once word (Some text) (Supplies (Article s)) (Supplies (Article t)) p q =
    ap (λ (o : List ℕ). Supplies (Article o)) (written_once text s t p.2 q.2)
action_once word (Some text) (Supplies (Article s)) (Supplies Gone) p q = absurd (p.1 q.1)
action_once word (Some text) (Supplies Gone) (Supplies (Article t)) p q = absurd (q.1 p.1)
action_once word (Some text) (Supplies Gone) (Supplies Gone) p q = refl
action_once word (Some text) (Supplies Unsendable) b p q = absurd p
action_once word (Some text) (Supplies (Article s)) (Supplies Unsendable) p q = absurd q
action_once word (Some text) (Supplies Gone) (Supplies Unsendable) p q = absurd q
action_once word (Some text) (Receives s) (Supplies Unsendable) p q = absurd q
action_once word (Some text) Hands b p q = absurd p
action_once word (Some text) Breaks b p q = absurd p
action_once word (Some text) a Hands p q = absurd q
action_once word (Some text) a Breaks p q = absurd q

-- one connection, and one action of it
on_once : (word rest : List ℕ) (m n : ℕ) (a b : ActionView) → SaysOn word rest m a → SaysOn word rest n b →
    Acts m a ≡ Acts n b
on_once word rest m n a b p q =
    let cut = cuts_once rest p.written q.written p.text q.text (number_solid p.written m p.connection)
    (number_solid q.written n q.connection) p.cut q.cut in
    let read = cut.word in
    let number : m ≡ n = cc (p.connection, q.connection, read) in
    let action : a ≡ b =
    action_once word p.text a b p.says (subst (λ (t : Option (List ℕ)). ActionOf word t b)
    (sym cut.text) q.says) in
    ap (λ (k : ℕ). Acts k a) number ∙ ap (Acts n) action

once_alone : (word : List ℕ) (a b : StepView) → StepOf word None a → StepOf word None b →
    step_tag a ≡ step_tag b → a ≡ b
once_alone word (Lines s) (Lines t) p q e = ap Lines (p.1 ∙ sym q.1)
once_alone word Flushes Flushes p q e = refl
once_alone word Begins Begins p q e = refl
once_alone word Seals Seals p q e = refl
once_alone word Stops Stops p q e = refl
once_alone word Restarts Restarts p q e = refl
once_alone word (Connects s) b p q e = absurd p
once_alone word (Acts n s) b p q e = absurd p
once_alone word (Ticks s) b p q e = absurd p
once_alone word (Sheds s) b p q e = absurd p
once_alone word (Rotates s) b p q e = absurd p
once_alone word (Arms s) b p q e = absurd p
once_alone word (Parts s) b p q e = absurd p
once_alone word (Imports n s) b p q e = absurd p
once_alone word a b p q e = absurd (apart (step_tag a) (step_tag b) refl e)

once_behind : (word rest : List ℕ) (a b : StepView) → StepOf word (Some rest) a → StepOf word (Some rest) b →
    step_tag a ≡ step_tag b → a ≡ b
once_behind word rest (Lines s) (Lines t) p q e = ap Lines (p.1 ∙ sym q.1)
once_behind word rest (Parts s) (Parts t) p q e = ap Parts (p.2 ∙ sym q.2)
once_behind word rest (Connects s) (Connects t) p q e = ap Connects (p.2 ∙ sym q.2)
once_behind word rest (Acts m a) (Acts n b) p q e = on_once word rest m n a b p q
once_behind word rest (Ticks s) (Ticks t) p q e = let same : s ≡ t = cc (p.1, q.1) in ap Ticks same
once_behind word rest (Sheds s) (Sheds t) p q e = ap Sheds (p.2 ∙ sym q.2)
once_behind word rest (Rotates s) (Rotates t) p q e = ap Rotates (p.2 ∙ sym q.2)
once_behind word rest (Imports m s) (Imports n t) p q e =
    let same = names_once IsWritten written_once rest m n s t p.1 q.1 in
    ap (λ (k : List ℕ). Imports k s) same.0 ∙ ap (Imports n) same.1
once_behind word rest (Arms s) (Arms t) p q e = let same : s ≡ t = cc (p.1, q.1) in ap Arms same
once_behind word rest Flushes b p q e = absurd p
once_behind word rest Stops b p q e = absurd p
once_behind word rest Restarts b p q e = absurd p
once_behind word rest Begins b p q e = absurd p
once_behind word rest Seals b p q e = absurd p
once_behind word rest a b p q e = absurd (apart (step_tag a) (step_tag b) refl e)

-- `import` says nothing about a connection
pub import_acts_not : (word rest : List ℕ) → word ≡ codes "import" → (number : ℕ) (action : ActionView) →
    SaysOn word rest number action → ⊥
import_acts_not word rest is number action says =
    apart 10 14 refl (sym (action_tag_is word says.text action says.says) ∙ ap (λ (w : List ℕ). tag_for w true) is)

parts_once : (word : List ℕ) (text : Option (List ℕ)) (a b : StepView) → StepOf word text a → StepOf word text b →
    a ≡ b
parts_once word None a b p q = once_alone word a b p q (sym (tag_is word None a p) ∙ tag_is word None b q)
parts_once word (Some rest) a b p q =
    once_behind word rest a b p q (sym (tag_is word (Some rest) a p) ∙ tag_is word (Some rest) b q)

step_once : (line : List ℕ) (a b : StepView) → SaysStep line a → SaysStep line b → a ≡ b
step_once line a b p q =
    let h = cut_is line in
    parts_once h.word h.text a b (step_parts line h.word h.text h.solid h.cut a p)
    (step_parts line h.word h.text h.solid h.cut b q)

-- a line whose first word is not a step's says none
no_step : (line word : List ℕ) (text : Option (List ℕ)) → IsSolid word → IsCut line word text →
    tag_for word (is_some text) ≡ 0 →
    (step : StepView) → SaysStep line step → ⊥
no_step line word text solid cut none step says =
    tagged step (sym (tag_is word text step (step_parts line word text solid cut step says)) ∙ none)

tag_of_comment : (word : List ℕ) (text : Option (List ℕ)) → tag_for (35 ∷ word) (is_some text) ≡ 0
tag_of_comment word text = refl

blank_no_step : (line : List ℕ) (step : StepView) → Says line Blank → SaysStep line step → ⊥
blank_no_step line step (inl none) says = no_step line [] None solid_none none refl step says
blank_no_step line step (inr comment) says =
    let h = cut_is comment.0 in
    let solid : IsSolid (35 ∷ h.word) = All-cons (λ o. o ≢ 32) 35 h.word (eqb-false 35 32 refl) h.solid in
    no_step (35 ∷ comment.0) (35 ∷ h.word) h.text solid (cut_longer 35 comment.0 h.word h.text h.cut)
    (tag_of_comment h.word h.text) step
    (subst (λ (l : List ℕ). SaysStep l step) comment.1 says)

-- a line of a peer does not begin like a comment
peer_no_blank : (line behind : List ℕ) → line ≡ codes "peer " ++ behind → Says line Blank → ⊥
peer_no_blank line behind e (inl none) = let never : codes "peer " ++ behind ≡ [] = sym e ∙ none in cc
peer_no_blank line behind e (inr comment) =
    differs (codes "peer " ++ behind) (codes "#" ++ comment.0) refl line e comment.1

-- nor does a line of a tape
tape_no_blank : (line behind : List ℕ) → line ≡ codes "tape " ++ behind → Says line Blank → ⊥
tape_no_blank line behind e (inl none) = let never : codes "tape " ++ behind ≡ [] = sym e ∙ none in cc
tape_no_blank line behind e (inr comment) =
    differs (codes "tape " ++ behind) (codes "#" ++ comment.0) refl line e comment.1

peer_no_tape : (line x y : List ℕ) → line ≡ codes "peer " ++ x → line ≡ codes "tape " ++ y → ⊥
peer_no_tape line x y p q = differs (codes "peer " ++ x) (codes "tape " ++ y) refl line p q

tape_no_step : (line : List ℕ) (name : DiskName) (octets : List ℕ) (step : StepView) → SaysTape line name octets
    → SaysStep line step → ⊥
tape_no_step line name octets step p q =
    no_step line (codes "tape") (Some p.0) (solid_from (codes "tape") refl) p.1 refl step q

-- a line that begins like a tape's but is written otherwise says nothing
pub no_tape_none : (line text : List ℕ) → line ≡ codes "tape " ++ text →
    ((name : DiskName) (octets : List ℕ) → GivesText text name octets → ⊥) → (said : SentenceView) →
    Says line said → ⊥
no_tape_none line text e none Blank says = tape_no_blank line text e says
no_tape_none line text e none (Declares peer) says = peer_no_tape line says.declaration text says.written e
no_tape_none line text e none (Gives name octets) says =
    none name octets (subst (λ (r : List ℕ). GivesText r name octets)
    (behind_once says.0 text (sym says.1 ∙ e)) says.2)
no_tape_none line text e none (Takes step) says =
    no_step line (codes "tape") (Some text) (solid_from (codes "tape") refl) e refl step says

pub says_once : (line : List ℕ) (one other : SentenceView) → Says line one → Says line other → one ≡ other
says_once line Blank Blank p q = refl
says_once line Blank (Declares peer) p q = absurd (peer_no_blank line q.declaration q.written p)
says_once line Blank (Takes step) p q = absurd (blank_no_step line step p q)
says_once line (Declares peer) Blank p q = absurd (peer_no_blank line p.declaration p.written q)
says_once line (Declares one) (Declares other) p q = ap Declares (peer_once line one other p q)
says_once line Blank (Gives name octets) p q = absurd (tape_no_blank line q.0 q.1 p)
says_once line (Gives name octets) Blank p q = absurd (tape_no_blank line p.0 p.1 q)
says_once line (Declares peer) (Gives name octets) p q =
    absurd (peer_no_tape line p.declaration q.0 p.written q.1)
says_once line (Gives name octets) (Declares peer) p q =
    absurd (peer_no_tape line q.declaration p.0 q.written p.1)
says_once line (Gives one octets) (Gives other others) p q =
    let same = tape_once line one other octets others p q in
    ap (λ (n : DiskName). Gives n octets) same.name ∙ ap (λ (o : List ℕ). Gives other o) same.octets
says_once line (Gives name octets) (Takes step) p q = absurd (tape_no_step line name octets step p q)
says_once line (Takes step) (Gives name octets) p q = absurd (tape_no_step line name octets step q p)
says_once line (Declares peer) (Takes step) p q =
    absurd (no_step line (codes "peer") (Some p.declaration) (solid_from (codes "peer") refl) p.written refl step q)
says_once line (Takes step) Blank p q = absurd (blank_no_step line step q p)
says_once line (Takes step) (Declares peer) p q =
    absurd (no_step line (codes "peer") (Some q.declaration) (solid_from (codes "peer") refl) q.written refl step p)
says_once line (Takes one) (Takes other) p q = ap Takes (step_once line one other p q)
