-- Where the search came to, and what it came to.
use Rattle.std.proofs.Common.{◌≡◌, ◌+◌, ◌-◌, ℕ, List, None, length, take, drop, sym, ◌∙◌, ap, refl, subst}
use Rattle.memchr.specs.Find.{IsFirstByte, is_byte}
use Rattle.reply_reader.specs.Search.{IsSearched}
use Rattle.reply_reader.proofs.Ends.{ends-at, found-at, lacks-end, searched-all, searched-to}
use Rattle.reply_reader.proofs.unread.Unread.first_end.Goals as goal

pub invariant_of-self : goal.invariant_of-self
invariant_of-self c =
    searched-to c.self.inside.octets.items c.deref.result.now _ c.self.inside.first c.self.inside.searched c.self.invariant c.deref.ensures.value refl
    c.in-Some.offset c.in-Some.ensures

searched-whole : (octets whole : List ℕ) (len n first searched : ℕ) → IsSearched octets first searched → whole ≡ octets → length whole ≡ len → n ≡ len
    → IsFirstByte (is_byte 10) (take (length whole - searched) (drop searched whole)) None → IsSearched octets first n
searched-whole octets whole len n first searched so_far same is n-is none =
    subst (λ m. IsSearched octets first m) (sym (ap length same) ∙ is ∙ sym n-is) (searched-all octets whole _ first searched so_far same refl none)

pub invariant_of-self-in-None : goal.invariant_of-self-in-None
invariant_of-self-in-None c =
    searched-whole c.self.inside.octets.items c.deref.result.now _ c.len-self-inside.result c.self.inside.first c.self.inside.searched c.self.invariant c.deref.ensures.value c.deref.ensures.len
    c.len-self-inside.ensures c.in-None.ensures

pub returns-in-Some-clause-offset : goal.returns-in-Some-clause-offset
returns-in-Some-clause-offset c =
    let found = found-at c.self.inside.octets.items c.deref.result.now _ c.self.inside.first c.self.inside.searched c.self.invariant c.deref.ensures.value refl c.in-Some.offset c.in-Some.ensures in
    ends-at c.self.inside.octets.items c.args.self.now c.self.inside.first (c.self.inside.searched + c.in-Some.offset) c.self.view_is (invariant_of-self c) found.0 found.1

pub returns-in-None-clause-offset : goal.returns-in-None-clause-offset
returns-in-None-clause-offset c =
    lacks-end c.self.inside.octets.items c.args.self.now c.self.inside.first c.self.view_is
    (searched-all c.self.inside.octets.items c.deref.result.now _ c.self.inside.first c.self.inside.searched c.self.invariant c.deref.ensures.value refl c.in-None.ensures)
