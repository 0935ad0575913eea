-- What the choices name on small disks, worked out by hand.
use Rattle.std.proofs.Common.{◌≡◌, ℕ, zero, suc, List, [], ◌∷◌, refl, lit≤}
use Rattle.disk_model.specs.declared.choice.Choice.{Choice}
use Rattle.disk_model.specs.Disk.{Event, Torn, Image}
use Rattle.disk_model.specs.Disk.Event.{Made, Wrote, Tore, WasCut, FailedCut, Synced}
use Rattle.disk_model.specs.Choice.{pending, chosen_image}

abbrev choosing : ℕ → ℕ → Choice
choosing happened fill = record { happened = happened; fill = fill }

-- a write of 7, 8, 9 to an empty disk
abbrev one_write : List Event
one_write = Wrote 0 (7 ∷ 8 ∷ 9 ∷ []) ∷ []

-- then one octet at its end
abbrev two_writes : List Event
two_writes = Wrote 3 (5 ∷ []) ∷ one_write

-- then a cut to two octets
abbrev then_cut : List Event
then_cut = WasCut 2 ∷ two_writes

happened : chosen_image (choosing 1 0) one_write ≡ 7 ∷ 8 ∷ 9 ∷ []
happened = refl

left_out : chosen_image (choosing 0 0) one_write ≡ []
left_out = refl

left_out_filled : chosen_image (choosing 0 165) one_write ≡ 165 ∷ 165 ∷ 165 ∷ []
left_out_filled = refl

both : chosen_image (choosing 3 0) two_writes ≡ 7 ∷ 8 ∷ 9 ∷ 5 ∷ []
both = refl

first_alone : chosen_image (choosing 1 0) two_writes ≡ 7 ∷ 8 ∷ 9 ∷ []
first_alone = refl

-- what lies between the image's end and the write is 0
second_alone : chosen_image (choosing 2 0) two_writes ≡ 0 ∷ 0 ∷ 0 ∷ 5 ∷ []
second_alone = refl

second_alone_filled : chosen_image (choosing 2 165) two_writes ≡ 165 ∷ 165 ∷ 165 ∷ 5 ∷ []
second_alone_filled = refl

neither_filled : chosen_image (choosing 0 165) two_writes ≡ 165 ∷ 165 ∷ 165 ∷ 165 ∷ []
neither_filled = refl

cut_happened : chosen_image (choosing 7 0) then_cut ≡ 7 ∷ 8 ∷ []
cut_happened = refl

cut_left_out : chosen_image (choosing 3 0) then_cut ≡ 7 ∷ 8 ∷ 9 ∷ 5 ∷ []
cut_left_out = refl

-- a sync leaves one image, and the count of the operations begins anew
synced : chosen_image (choosing 0 165) (Synced ∷ then_cut) ≡ 7 ∷ 8 ∷ []
synced = refl

after_sync : chosen_image (choosing 1 165) (Wrote 2 (6 ∷ []) ∷ Wrote 0 (1 ∷ []) ∷ Synced ∷ then_cut) ≡ 1 ∷ 8 ∷ 165 ∷ []
after_sync = refl

-- a write or a cut that failed did not happen, and is an operation all the same
failed : chosen_image (choosing 7 165) (Wrote 0 (1 ∷ []) ∷ FailedCut 1 ∷ Tore 0 2 (4 ∷ 4 ∷ []) ∷ Made
    (7 ∷ 8 ∷ []) ∷ []) ≡ 1 ∷ 8 ∷ []
failed = refl

failed_counted : pending (Wrote 0 (1 ∷ []) ∷ FailedCut 1 ∷ Tore 0 2 (4 ∷ 4 ∷ []) ∷ Made (7 ∷ 8 ∷ []) ∷ []) ≡ 3
failed_counted = refl

-- that many writes of 1 at the beginning
fill_up : ℕ → List Event → List Event
fill_up zero log = log
fill_up (suc n) log = Wrote 0 (1 ∷ []) ∷ fill_up n log

-- operation 62 goes by bit 62, and operations 63 and 64 by bit 63
abbrev at_62 : List Event
at_62 = Wrote 0 (2 ∷ []) ∷ fill_up 62 []

abbrev at_63 : List Event
at_63 = Wrote 0 (2 ∷ []) ∷ fill_up 63 []

abbrev at_64 : List Event
at_64 = Wrote 0 (2 ∷ []) ∷ fill_up 64 []

by_bit_62 : chosen_image (choosing 4611686018427387904 0) at_62 ≡ 2 ∷ []
unfolding fill_up
by_bit_62 = refl

not_by_bit_63 : chosen_image (choosing 9223372036854775808 0) at_62 ≡ []
unfolding fill_up
not_by_bit_63 = refl

by_bit_63 : chosen_image (choosing 9223372036854775808 0) at_63 ≡ 2 ∷ []
unfolding fill_up
by_bit_63 = refl

also_by_bit_63 : chosen_image (choosing 9223372036854775808 0) at_64 ≡ 2 ∷ []
unfolding fill_up
also_by_bit_63 = refl

not_by_bit_62 : chosen_image (choosing 4611686018427387904 0) at_64 ≡ 1 ∷ []
unfolding fill_up
not_by_bit_62 = refl

-- a write of two octets at 3 on an image of one octet may leave four, of which the last three are anything
torn_short : Torn 3 2 (1 ∷ []) (1 ∷ 7 ∷ 8 ∷ 9 ∷ [])
torn_short = record { before = refl; after = refl; no_shorter = lit≤ tt; no_longer = lit≤ tt }

-- and may not touch what stands outside its range
torn_outside : Torn 1 1 (1 ∷ 2 ∷ 3 ∷ []) (1 ∷ 9 ∷ 4 ∷ []) → ⊥
torn_outside torn = cc torn.after

torn_before : Torn 1 1 (1 ∷ 2 ∷ 3 ∷ []) (5 ∷ 9 ∷ 3 ∷ []) → ⊥
torn_before torn = cc torn.before

-- two gates that were opened by writes of one octet, of which the second alone happened
two_gates : Image (Wrote 2 (0xa5 ∷ []) ∷ Wrote 0 (0xa5 ∷ []) ∷ Made (0 ∷ 1 ∷ 0 ∷ 2 ∷ []) ∷ []) (0 ∷ 1 ∷ 0xa5 ∷ 2 ∷ [])
two_gates = (
  0 ∷ 1 ∷ 0 ∷ 2 ∷ [],
  (
    0 ∷ 1 ∷ 0 ∷ 2 ∷ [],
    refl,
    record {
      before = refl;
      after = refl;
      no_shorter =
          lit≤ tt;
      no_longer = lit≤ tt;
    },
  ),
  record {
    before = refl;
    after = refl;
    no_shorter = lit≤ tt;
    no_longer =
        lit≤ tt;
  },
)
