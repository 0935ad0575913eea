-- One note more.
use Rattle.std.proofs.Common.{◌≡◌, ◌++◌, List, ℕ, length, sym, ap, ◌∙◌, subst, arith}
use Rattle.std.specs.Prelude.{Vec}
use Rattle.std.specs.declared.alloc.Global.{Global}
use Rattle.std.proofs.lemmas.List.{length-map}
use Rattle.ledger_core.specs.Index.{Indexes}
use Rattle.ledger_core.specs.Spelling.{spelling}
use Rattle.recovery.specs.Pending.{EndsAt, HasRoom, payloads_in}
use Rattle.recovery.proofs.Pends.{holds-same, note_len}
use Rattle.recovery.proofs.Places.{grows-indexes}
use Rattle.recovery.proofs.pending.Pending.take.Goals as goal

pub make_room-requires : goal.make_room-requires
make_room-requires c =
    let octets = c.in_ok-octets.octets in
    omega (
      arith,
      c.len-len.ensures,
      octets.ok.0,
      note_len c.args.note.now octets.items c.in_ok-octets.ensures.note c.in_ok-octets.ensures.octets,
    )

pub place_for-place-requires-clause-short : goal.place_for-place-requires-clause-short
place_for-place-requires-clause-short c =
    let octets = c.in_ok-octets.octets in
    omega (
      arith,
      c.len-len.ensures,
      octets.ok.0,
      note_len c.args.note.now octets.items c.in_ok-octets.ensures.note c.in_ok-octets.ensures.octets,
    )

pub push-requires-clause-room : goal.push-requires-clause-room
push-requires-clause-room c =
    subst (HasRoom c.make_room.new.self) (c.len-len.ensures ∙ c.in_ok-octets.octets.ok.0) c.in_ok-make_room.ensures.room

pub push-requires-clause-short : goal.push-requires-clause-short
push-requires-clause-short c =
    note_len c.args.note.now c.in_ok-octets.octets.items c.in_ok-octets.ensures.note c.in_ok-octets.ensures.octets

pub returns-clause-holds : goal.returns-clause-holds
returns-clause-holds c = λ notes holds.
    c.push.ensures.holds notes c.args.note.now
    (holds-same c.args.self.now c.make_room.new.self notes c.make_room.ensures.payloads holds)
    c.in_ok-octets.ensures.note c.in_ok-octets.ensures.octets

pub returns-clause-ends : goal.returns-clause-ends
returns-clause-ends c = λ kept notes holds at.
    let held = holds-same c.args.self.now c.make_room.new.self notes c.make_room.ensures.payloads holds in
    let note = c.args.note.now in
    let octets = c.in_ok-octets.octets in
    let grows = c.push.ensures.grows notes note held c.in_ok-octets.ensures.note c.in_ok-octets.ensures.octets in
    let long : c.len-len.result ≡ length (spelling note) =
    c.len-len.ensures ∙ (octets.ok.0 ∙ ap length c.in_ok-octets.ensures.octets) in
    c.place_for-place.ensures.ends kept (payloads_in c.push.new.self) notes note held
    (subst (λ (l : List (List ℕ)). EndsAt kept l c.args.last c.args.next) (sym c.make_room.ensures.payloads) at)
    long grows

pub returns-clause-indexes : goal.returns-clause-indexes
returns-clause-indexes c = λ kept prefix ledger notes holds indexes.
    let held = holds-same c.args.self.now c.make_room.new.self notes c.make_room.ensures.payloads holds in
    let note = c.args.note.now in
    let grows = c.push.ensures.grows notes note held c.in_ok-octets.ensures.note c.in_ok-octets.ensures.octets in
    grows-indexes kept prefix (payloads_in c.make_room.new.self) (payloads_in c.push.new.self) ledger note grows
    (subst (λ (l : List (List ℕ)). Indexes kept (prefix ++ l) ledger) (sym c.make_room.ensures.payloads) indexes)

pub returns-clause-more : goal.returns-clause-more
returns-clause-more c =
    omega (
      arith,
      c.push.ensures.more,
      ap length c.make_room.ensures.payloads,
      length-map c.args.self.now.payloads.items (λ (v : Vec ℕ Global). v.items),
      length-map c.make_room.new.self.payloads.items (λ (v : Vec ℕ Global). v.items),
    )

pub returns-clause-len : goal.returns-clause-len
returns-clause-len c =
    omega (
      arith,
      c.push.ensures.len,
      ap length c.make_room.ensures.payloads,
      length-map c.args.self.now.payloads.items (λ (v : Vec ℕ Global). v.items),
      length-map c.make_room.new.self.payloads.items (λ (v : Vec ℕ Global). v.items),
    )
