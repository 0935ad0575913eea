-- The looks at the buffer, together.
use Rattle.std.proofs.Common.{rules, ◌≡◌, ◌≤◌, ◌+◌, ◌∙◌, ap, sym}
use Rattle.std.proofs.Common.{List, length, length-take-le, slice_range, take, Some, true, ℕ}
use Rattle.innd_storage.specs.ArticleHeads.{head_of}
use Rattle.innd_spool.specs.Buffers.{IsUnchanged, size_by}
use Rattle.innd_spool.proofs.Moments.{IsRead, moved, read_by}
use Rattle.innd_spool.proofs.buffer_article.read_stored.Goals as goal

-- the text was read, and nothing has changed
pub returns-then-branch : goal.returns-then-branch
returns-then-branch g c =
    let k0 = g.L.Looks.contents c.args.buffer.now in
    let k4 = g.L.Looks.contents c.find_text.new.buffer in
    let n0 = g.L.Looks.moment c.args.buffer.now in
    let n4 = g.L.Looks.moment c.find_text.new.buffer in
    let tick = g.L.Looks.tick in
    let count = c.in-Some-size_in.size in
    let room : List ℕ = c.find_text.new.room.items in
    let place = c.in-Some.place in
    let head : List ℕ = c.in_ok-head.head in
    let came : List ℕ = slice_range c.find_front.new.front 24 c.in_ok-head.count in
    let within : count ≤ length room = c.in_ok-find_text.ensures.within in
    let whole : length (take count room) ≡ count = length-take-le count room within in
    let set : c.in_ok-find_bit.field-0 ≡ true = search rules in
    let size : size_by place.header place.offset (head_of head) ≡ Some count = search rules in
    let read : IsRead k0 k4 n0 n4 tick c.args.token.now place head (take count room) =
    read_by k0 (g.L.Looks.contents c.find_place.new.buffer) (g.L.Looks.contents c.find_bit.new.buffer)
    (g.L.Looks.contents c.find_front.new.buffer) k4
    n0 (g.L.Looks.moment c.find_place.new.buffer) (g.L.Looks.moment c.find_bit.new.buffer)
    (g.L.Looks.moment c.find_front.new.buffer) n4
    tick c.args.token.now place head came (take count room)
    (record {
      header = rw c.in-Some.is at c.in_ok-place.ensures.shows;
      bit = rw set at c.in_ok-find_bit.ensures.shows;
      head_shown = c.in_ok-head.ensures.head;
      came_shown = c.in_ok-head.ensures.text;
      size = size ∙ ap Some (sym whole);
      text = c.in_ok-find_text.ensures.text;
      same1 = c.find_place.ensures.contents;
      same2 = c.find_bit.ensures.contents;
      same3 = c.find_front.ensures.contents;
      same4 = c.find_text.ensures.contents;
      at1 = c.in_ok-place.ensures.moment;
      at2 = c.in_ok-find_bit.ensures.moment;
      at3 = c.in_ok-head.ensures.moment;
    })
    in (
      within,
      record {
        place = place;
        head = head;
        read = read.read;
        begins = read.begins;
        is_read = read.is_read;
        text = read.text;
        unchanged = moved (λ has moment. IsUnchanged has moment tick place.offset head c.args.token.now.block)
            k0 k4 (read.read + tick) n4 read.same read.after (c.in_ok-is_unchanged.ensures.unchanged c.if-branch.true);
      },
    )
