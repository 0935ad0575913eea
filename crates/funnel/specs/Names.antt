-- Message-ids, tokens and the names of peers.
use Rattle.std.specs.Prelude.{◌==◌, ◌-◌, ◌&&◌, ◌||◌, ℕ, Bool, not, List, length, nat_le, slice_index, count_by}
use Rattle.std.specs.List.{list_all, list_any, slice_split}

-- a visible octet: 33 to 126
abbrev pub is_graphic : ℕ → Bool
is_graphic octet = nat_le 33 octet && nat_le octet 126

-- A message-id: 3 to 250 octets, `<` first, `>` last and nowhere else, all of 33 to 126 (RFC 3977, section 3.6).
abbrev pub is_msg_id : List ℕ → Bool
is_msg_id octets =
    nat_le 3 (length octets) && nat_le (length octets) 250
    && slice_index octets 0 == 60 && slice_index octets (length octets - 1) == 62
    && count_by (λ octet. octet == 62) octets == 1 && list_all is_graphic octets

-- two dots, the parent directory
abbrev pub is_parent : List ℕ → Bool
is_parent part = length part == 2 && list_all (λ octet. octet == 46) part

-- A token: 1 to 255 octets, all of 33 to 126; the first is not `/`, and no part between slashes is two dots (profile).
abbrev pub is_token : List ℕ → Bool
is_token octets =
    nat_le 1 (length octets) && nat_le (length octets) 255 && list_all is_graphic octets
    && not (slice_index octets 0 == 47) && not (list_any is_parent (slice_split (λ octet. octet == 47) octets))

-- a letter or a digit
abbrev pub is_alphanumeric : ℕ → Bool
is_alphanumeric octet =
    (nat_le 97 octet && nat_le octet 122) || (nat_le 65 octet && nat_le octet 90) || (nat_le 48 octet && nat_le octet 57)

-- a letter, a digit, `.`, `-` or `_`
abbrev pub is_name_octet : ℕ → Bool
is_name_octet octet = is_alphanumeric octet || octet == 46 || octet == 45 || octet == 95

-- The name of a peer: 1 to 64 letters, digits, `.`, `-` and `_`, the first not `.` (profile).
abbrev pub is_peer_name : List ℕ → Bool
is_peer_name octets =
    nat_le 1 (length octets) && nat_le (length octets) 64 && list_all is_name_octet octets && not (slice_index octets 0 == 46)
