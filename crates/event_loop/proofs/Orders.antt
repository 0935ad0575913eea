-- What a link took and gave over a whole chain.
use Rattle.std.proofs.Common.{◌≡◌, ℕ, ◌+◌, ◌≤◌, suc, zero, List, [], ◌∷◌, ◌++◌, length, drop, take, refl, sym, ap, ◌∙◌}
use Rattle.std.proofs.Common.{subst, arith, Option, Some, None}
use Rattle.std.specs.Prelude.{is_some, if◌then◌else◌}
use Rattle.std.specs.List.{AllZip}
use Rattle.std.proofs.lemmas.List.{append_assoc, append-nil, length-take-le, length-drop, length-append, drop-append-le}
use Rattle.std.proofs.lemmas.List.{take-append-le}
use Rattle.std.proofs.lemmas.List.Concat.{flat_map-append}
use Rattle.std.proofs.Math.Seq.{take-add}
use Rattle.funnel.specs.Stream.{ended}
use Rattle.reply_reader.specs.Stream.{Given, IsAnswer}
use Rattle.conn_core.specs.History.{Event, Sent, Broke, put_octets, sent, reason, output, after, outside}
use Rattle.conn_core.specs.Stands.{StandsFor}
use Rattle.conn_core.specs.State.{Holding}
use Rattle.conn_core.specs.declared.options.Options.{Options}
use Rattle.conn_core.specs.declared.reason.Reason.{Reason}
use Rattle.conn_core.specs.declared.reason.Reason.TheVariants.{Broken}
use Rattle.event_loop.specs.Laws.{came, TookInOrder, GaveReplies}
use Rattle.event_loop.specs.Link.{moved, Tells}
use Rattle.event_loop.specs.Chain.{Moves, Step, None_yet, Sends_on, Takes_on, after_send, left_by}
use Rattle.event_loop.specs.declared.moved.Moved.{Moved}
use Rattle.event_loop.specs.declared.moved.Moved.TheVariants.{Done, Later, Closed, Fault}
use Rattle.event_loop.proofs.Grows.{Received, taken_in, broke-received, open-not-shut, some-shut, first-none}
use Rattle.event_loop.proofs.Grows.{puts-after}

record Took (options : Options) (h later : List Event) (before : List ℕ) (now : Option (List ℕ)) : Type 0 where
  pub took_is : TookInOrder h later before now
  pub ahead : sent h ≤ sent later
  pub few : reason options later ≡ None → sent later ≤ length (put_octets later)

between-none : {A : Type 0} (n : ℕ) (xs : List A) → drop n (take n xs) ≡ []
between-none zero [] = refl
between-none zero (x ∷ xs) = refl
between-none (suc n) [] = refl
between-none (suc n) (x ∷ xs) = between-none n xs

take-nil : {A : Type 0} (n : ℕ) → (let none : List A = [] in take n none ≡ none)
take-nil zero = refl
take-nil (suc n) = refl

take-zero : {A : Type 0} (xs : List A) → take 0 xs ≡ []
take-zero [] = refl
take-zero (x ∷ xs) = refl

joined : (a s n : ℕ) (xs : List ℕ) → a ≤ s → s ≤ length xs
    → drop a (take s xs) ++ take n (drop s xs) ≡ drop a (take (s + n) xs)
joined a s n xs ahead few =
    let len = length-take-le s xs few in
    let short : a ≤ length (take s xs) = omega (arith, len, ahead) in
    sym (ap (drop a) (take-add s n xs) ∙ drop-append-le a (take s xs) (take n (drop s xs)) short)

-- a send
sent-law : (options : Options) (h mid : List Event) (n : ℕ) (before : List ℕ) (now : Option (List ℕ))
    (r : Option Reason) → reason options mid ≡ r
    → sent h ≤ sent mid → (reason options mid ≡ None → sent mid ≤ length (put_octets mid))
    → n ≤ length (if is_some r then [] else drop (sent mid) (put_octets mid))
    → now ≡ Some ((before ++ drop (sent h) (take (sent mid) (put_octets mid))) ++ take n
    (if is_some r then [] else drop (sent mid) (put_octets mid)))
    → Took options h (if is_some r then mid else Sent n ∷ mid) before now
sent-law options h mid n before now None e ahead few n_few told =
    let here = few e in
    let len = length-drop (sent mid) (put_octets mid) in
    record {
      took_is = told ∙ ap Some (append_assoc before _ _
          ∙ ap (λ xs. before ++ xs) (joined (sent h) (sent mid) n (put_octets mid) ahead here));
      ahead = omega (arith, ahead);
      few = λ _. omega (arith, here, len, n_few);
    }
sent-law options h mid n before now (Some why) e ahead few n_few told = record {
  took_is = told ∙ ap Some (ap (λ xs. (before ++ drop (sent h) (take (sent mid) (put_octets mid))) ++ xs) (take-nil n)
      ∙ append-nil _);
  ahead = ahead;
  few = few;
}

-- what sends nothing
quiet-law : (options : Options) (waiting : List ℕ) (h mid : List Event) (left : List ℕ) (later : List Event)
    (before : List ℕ) (now : Option (List ℕ)) (r : Option Reason)
    → reason options mid ≡ r → Took options h mid before now → Received options waiting mid left later
    → Took options h later before now
quiet-law options waiting h mid left later before now None e t rec =
    let here = t.few e in
    let grows = ap (λ xs. length xs) rec.grown in
    let sum = length-append (put_octets mid) rec.more in
    let same = rec.same_sent in
    record {
      took_is = t.took_is ∙ ap Some (ap (λ xs. before ++ drop (sent h) xs)
          (sym (ap (λ n. take n (put_octets later)) same ∙ ap (take (sent mid)) rec.grown
          ∙ take-append-le (sent mid) (put_octets mid) rec.more here)));
      ahead = subst (λ n. sent h ≤ n) (sym same) t.ahead;
      few = λ _. omega (arith, here, grows, sum, same);
    }
quiet-law options waiting h mid left later before now (Some why) e t rec =
    subst (λ l. Took options h l before now) (sym (rec.still (ap is_some e))) t

no-send : (options : Options) (h mid : List Event) (before : List ℕ) (now : Option (List ℕ))
    → sent h ≤ sent mid → (reason options mid ≡ None → sent mid ≤ length (put_octets mid))
    → now ≡ Some ((before ++ drop (sent h) (take (sent mid) (put_octets mid))) ++ take 0 (output options mid))
    → Took options h mid before now
no-send options h mid before now ahead few told = record {
  took_is = told ∙ ap Some
      (ap (λ xs. (before ++ drop (sent h) (take (sent mid) (put_octets mid))) ++ xs) (take-zero (output options mid))
      ∙ append-nil _);
  ahead = ahead;
  few = few;
}

any-send : (options : Options) (h mid : List Event) (before : List ℕ) (now : Option (List ℕ)) (made : Moved)
    → sent h ≤ sent mid → (reason options mid ≡ None → sent mid ≤ length (put_octets mid))
    → moved made ≤ length (output options mid)
    → now ≡ Some ((before ++ drop (sent h) (take (sent mid) (put_octets mid))) ++ take (moved made)
    (output options mid))
    → Took options h (after_send options mid made) before now
any-send options h mid before now (Done n) ahead few n_few told =
    sent-law options h mid n before now (reason options mid) refl ahead few n_few told
any-send options h mid before now Later ahead few n_few told = no-send options h mid before now ahead few told
any-send options h mid before now Closed ahead few n_few told =
    let stays = no-send options h mid before now ahead few told in
    quiet-law options [] h mid [] (outside options mid Broke) before now (reason options mid) refl stays
    (broke-received options [] mid (reason options mid) refl)
any-send options h mid before now Fault ahead few n_few told =
    let stays = no-send options h mid before now ahead few told in
    quiet-law options [] h mid [] (outside options mid Broke) before now (reason options mid) refl stays
    (broke-received options [] mid (reason options mid) refl)

took-all : {L : Type 0} (took gave : L → Option (List ℕ)) (takes : L → List ℕ → Moved → L → Type 0)
    (gives : L → ℕ → Moved → L → Type 0) (options : Options) (room : ℕ) (unread : List ℕ) (h : List Event)
    (link : L) (left : List ℕ) (later : List Event) (new : L) (before : List ℕ) (steps : List Step)
    → (reason options h ≡ None → sent h ≤ length (put_octets h))
    → Moves took gave takes gives options room unread h link steps left later new → took link ≡ Some before
    → Took options h later before (took new)
took-all took gave takes gives options room unread h link left later new before steps few None_yet begins = record {
  took_is = begins
      ∙ ap Some (sym (ap (λ xs. before ++ xs) (between-none (sent h) (put_octets h)) ∙ append-nil before));
  ahead = omega arith;
  few = few;
}
took-all took gave takes gives options room unread h link left later new before steps few
    (Sends_on earlier left_mid mid between last made moves sends same_gave) begins =
    let r = took-all took gave takes gives options room unread h link
    left_mid mid between before earlier few moves begins in
    let told = subst (λ x. Tells x (take (moved made) (output options mid)) (took last)) r.took_is sends.told in
    any-send options h mid before (took last) made r.ahead r.few sends.within told
took-all took gave takes gives options room unread h link left later new before steps few
    (Takes_on earlier left_mid rest mid last between behind made octets moves gets same_took comes) begins =
    let r = took-all took gave takes gives options room unread h link
    left_mid mid between before earlier few moves begins in
    let rec = taken_in options made octets left_mid rest mid last gets.count comes in
    subst (λ now. Took options h last before now) (sym same_took)
    (quiet-law options (left_mid ++ octets) h mid rest last before (took between) (reason options mid) refl r rec)

-- in order, with nothing left out and nothing repeated
pub took_in_order : {L : Type 0} (took gave : L → Option (List ℕ)) (takes : L → List ℕ → Moved → L → Type 0)
    (gives : L → ℕ → Moved → L → Type 0) (options : Options) (conn : Holding) (room : ℕ) (unread : List ℕ)
    (h : List Event) (link : L) (left : List ℕ) (later : List Event) (new : L) (before : List ℕ) (steps : List Step)
    → StandsFor options conn unread h
    → Moves took gave takes gives options room unread h link steps left later new → took link ≡ Some before
    → TookInOrder h later before (took new)
unfolding StandsFor
took_in_order took gave takes gives options conn room unread h link left later new before steps stands moves begins =
    (took-all took gave takes gives options room unread h link left later new before steps
    (λ e. (stands.2.while_open e).sent_few) moves begins).took_is

zip-append : (k l : List (List ℕ)) (a b : List Given) → AllZip IsAnswer k a → AllZip IsAnswer l b
    → AllZip IsAnswer (k ++ l) (a ++ b)
zip-append [] l [] b p q = q
zip-append [] l (x ∷ a) b p q = absurd p
zip-append (x ∷ k) l [] b p q = absurd p
zip-append (x ∷ k) l (y ∷ a) b (p, ps) q = (p, zip-append k l a b ps q)

-- a break adds no reply
broke-came : (options : Options) (h : List Event) (r : Option Reason) → reason options h ≡ r
    → came (if is_some r then h else after options h Broke) ≡ came h
broke-came options h None e = (puts-after options h Broke).same_came
broke-came options h (Some why) e = refl

broke-shuts : (options : Options) (h : List Event) (r : Option Reason) → reason options h ≡ r → {B : Type 0}
    → reason options (if is_some r then h else after options h Broke) ≡ None → B
broke-shuts options h None e q =
    some-shut (reason options h) Broken (sym ((puts-after options h Broke).same_reason) ∙ q)
broke-shuts options h (Some why) e q = open-not-shut (reason options h) (ap is_some e) q

noted-came : (options : Options) (h : List Event) (n : ℕ) (r : Option Reason)
    → came (if is_some r then h else Sent n ∷ h) ≡ came h
noted-came options h n None = refl
noted-came options h n (Some why) = refl

noted-open : (options : Options) (h : List Event) (n : ℕ) (r : Option Reason)
    → reason options (if is_some r then h else Sent n ∷ h) ≡ None → reason options h ≡ None
noted-open options h n None q = sym (first-none (reason options h)) ∙ q
noted-open options h n (Some why) q = q

send-came : (options : Options) (h : List Event) (made : Moved) → came (after_send options h made) ≡ came h
send-came options h (Done n) = noted-came options h n (reason options h)
send-came options h Later = refl
send-came options h Closed = broke-came options h (reason options h) refl
send-came options h Fault = broke-came options h (reason options h) refl

send-rest : (options : Options) (h : List Event) (rest left : List ℕ) (made : Moved)
    → (reason options h ≡ None → rest ≡ left)
    → reason options (after_send options h made) ≡ None → rest ≡ left_by made left
send-rest options h rest left (Done n) is q = is (noted-open options h n (reason options h) q)
send-rest options h rest left Later is q = is q
send-rest options h rest left Closed is q = broke-shuts options h (reason options h) refl q
send-rest options h rest left Fault is q = broke-shuts options h (reason options h) refl q

-- one more receipt
receipt-more : (options : Options) (unread : List ℕ) (h : List Event) (before left : List ℕ) (mid : List Event)
    (g now : Option (List ℕ)) (octets rest : List ℕ) (later : List Event)
    (r : Option Reason) → reason options mid ≡ r → (s : GaveReplies options unread h before left mid g)
    → Received options (left ++ octets) mid rest later
    → now ≡ Some ((before ++ s.given) ++ octets) → GaveReplies options unread h before rest later now
receipt-more options unread h before left mid g now octets rest later None e s rec told =
    let k = s.made_up.lines in
    let l = rec.made_up.lines in
    record {
      given = s.given ++ octets;
      replies = s.replies ++ rec.replies;
      rest = rec.rest;
      gave_is = told ∙ ap Some (append_assoc before s.given octets);
      came_is = rec.came_is ∙ ap (λ xs. xs ++ rec.replies) s.came_is ∙ append_assoc (came h) s.replies rec.replies;
      made_up = record {
        lines = k ++ l;
        whole = sym (append_assoc unread s.given octets) ∙ ap (λ xs. xs ++ octets) s.made_up.whole
            ∙ append_assoc (ended k) s.rest octets ∙ ap (λ xs. ended k ++ (xs ++ octets)) (s.rest_is e)
            ∙ ap (λ xs. ended k ++ xs) rec.made_up.whole ∙ sym (append_assoc (ended k) (ended l) rec.rest)
            ∙ ap (λ xs. xs ++ rec.rest) (sym (flat_map-append (λ line. line ++ 10 ∷ []) k l));
        answers = zip-append k l s.replies rec.replies s.made_up.answers rec.made_up.answers;
      };
      rest_is = rec.rest_is;
    }
receipt-more options unread h before left mid g now octets rest later (Some why) e s rec told =
    let still = rec.still (ap is_some e) in
    record {
      given = s.given ++ octets;
      replies = s.replies;
      rest = s.rest ++ octets;
      gave_is = told ∙ ap Some (append_assoc before s.given octets);
      came_is = ap came still ∙ s.came_is;
      made_up = record {
        lines = s.made_up.lines;
        whole = sym (append_assoc unread s.given octets) ∙ ap (λ xs. xs ++ octets) s.made_up.whole
            ∙ append_assoc (ended s.made_up.lines) s.rest octets;
        answers = s.made_up.answers;
      };
      rest_is = λ q. open-not-shut (reason options mid) (ap is_some e) (sym (ap (reason options) still) ∙ q);
    }

-- the octets held back before and what was given make up the replies and what is held back now
pub gave_replies : {L : Type 0} (took gave : L → Option (List ℕ)) (takes : L → List ℕ → Moved → L → Type 0)
    (gives : L → ℕ → Moved → L → Type 0) (options : Options) (room : ℕ) (unread : List ℕ) (h : List Event)
    (link : L) (left : List ℕ) (later : List Event) (new : L) (before : List ℕ) (steps : List Step)
    → Moves took gave takes gives options room unread h link steps left later new → gave link ≡ Some before
    → GaveReplies options unread h before left later (gave new)
gave_replies took gave takes gives options room unread h link left later new before steps None_yet begins = record {
  given = [];
  replies = [];
  rest = unread;
  gave_is = begins ∙ ap Some (sym (append-nil before));
  came_is = sym (append-nil (came h));
  made_up = record { lines = []; whole = append-nil unread; answers = record {} };
  rest_is = λ _. refl;
}
gave_replies took gave takes gives options room unread h link left later new before steps
    (Sends_on earlier left_mid mid between last made moves sends same_gave) begins =
    let s = gave_replies took gave takes gives options room unread h link
    left_mid mid between before earlier moves begins in
    record {
      given = s.given;
      replies = s.replies;
      rest = s.rest;
      gave_is = same_gave ∙ s.gave_is;
      came_is = send-came options mid made ∙ s.came_is;
      made_up = s.made_up;
      rest_is = send-rest options mid s.rest left_mid made s.rest_is;
    }
gave_replies took gave takes gives options room unread h link left later new before steps
    (Takes_on earlier left_mid rest mid last between behind made octets moves gets same_took comes) begins =
    let s = gave_replies took gave takes gives options room unread h link
    left_mid mid between before earlier moves begins in
    let rec = taken_in options made octets left_mid rest mid last gets.count comes in
    let told = subst (λ x. Tells x octets (gave behind)) s.gave_is gets.told in
    receipt-more options unread h before left_mid mid (gave between) (gave behind) octets rest last
    (reason options mid) refl s rec told
