use Rattle.std.specs.VecDeque.{deque_len}
use Rattle.ob_seq.proofs.Words.{◌≡◌, ◌<◌, ◌≤◌, List, length, length-append, append-nil, ap, sym, ◌∙◌, arith, Entry, nat_tests}
use Rattle.ob_seq.specs.Laid.{Laid, entries_of, fronts, items_of, segment_room}
use Rattle.ob_seq.proofs.Laid.{capacity_behind, entries_behind, full_behind, last_full, segment_more}
use Rattle.ob_seq.proofs.entries.Entries.grow.Goals as goal

pub invariant_of-self-then-not-is_empty : goal.invariant_of-self-then-not-is_empty
invariant_of-self-then-not-is_empty c =
    let inside = c.self.inside in
    let front = c.self.invariant.front in
    let added = c.in_ok-add_segment.ensures.ok in
    let some : 0 < deque_len inside.first = grind (arith, nat_tests, c.if-not-is_empty.ensures) in
    let full = last_full inside c.self.view_is c.self.invariant c.requires some in record {
      front = record {
        full = rw added.behind (full_behind inside.more.items inside.last front.full full (c.self.invariant.room some));
        none = λ nothing. absurd (omega (arith, nothing, some));
        small = front.small;
        few = rw (added.behind, length-append) (omega (arith, added.few));
      };
      room = λ any. added.room;
      small = omega (arith, added.room);
    }

pub returns-then-not-is_empty-clause-items : goal.returns-then-not-is_empty-clause-items
returns-then-not-is_empty-clause-items c =
    let inside = c.self.inside in
    let added = c.in_ok-add_segment.ensures.ok in
    rw (added.behind, added.none, append-nil) (entries_behind (fronts inside) inside.last)
    ∙ ap (λ (laid : Laid). laid.items) c.self.view_is

pub returns-then-not-is_empty-clause-ok : goal.returns-then-not-is_empty-clause-ok
returns-then-not-is_empty-clause-ok c =
    let inside = c.self.inside in
    let added = c.in_ok-add_segment.ensures.ok in
    let items = c.args.self.now.items in
    let some : 0 < deque_len inside.first = grind (arith, nat_tests, c.if-not-is_empty.ensures) in
    let full = last_full inside c.self.view_is c.self.invariant c.requires some in
    let count : length (items_of inside) ≡ length items = ap (λ (laid : Laid). length laid.items) c.self.view_is in
    let none = ap (λ (list : List Entry). length list) added.none in
    let all = length-append (entries_of (fronts inside)) inside.last.items in
    let many_all : segment_room ≤ length items = omega (arith, full, count, all, inside.last.ok) in
    rw (returns-then-not-is_empty-clause-items c) (omega (arith, added.room, none, c.add_segment.new.last.ok)
    ∙ sym (segment_more (length items) c.args.self.now.room c.requires many_all))

pub returns-then-not-is_empty-clause-memory : goal.returns-then-not-is_empty-clause-memory
returns-then-not-is_empty-clause-memory c =
    let inside = c.self.inside in
    let added = c.in_ok-add_segment.ensures.ok in
    let places = ap (λ (laid : Laid). laid.capacity) c.self.view_is in
    let count = ap (λ (laid : Laid). length laid.items) c.self.view_is in
    let none = ap (λ (list : List Entry). length list) added.none in
    rw (returns-then-not-is_empty-clause-items c, added.behind, capacity_behind inside.more.items inside.last) (omega (
      arith,
      added.room,
      none,
      c.add_segment.new.last.ok,
      places,
      count,
      c.requires,
    ))
