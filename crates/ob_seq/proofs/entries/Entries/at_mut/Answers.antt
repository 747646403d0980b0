use Rattle.std.specs.VecDeque.{deque_with_item}
use Rattle.ob_seq.specs.Laid.{entries_of, fronts}
use Rattle.ob_seq.proofs.Words.{◌<◌, length, arith, refl}
use Rattle.ob_seq.proofs.Laid.{in_more, lent_last, lent_more, lent_there, more_lent, one_in_last, one_in_more, one_there}
use Rattle.ob_seq.proofs.entries.Entries.at_mut.Goals as goal

pub returns-then-place-ahead : goal.returns-then-place-ahead
returns-then-place-ahead c = (
  (refl, lent_last c.self.inside c.self.view_is c.count_of-ahead.ensures c.requires c.if-place-ahead.true),
  record {
    writes_back = tt;
    value = one_in_last c.self.inside c.self.view_is c.count_of-ahead.ensures c.requires c.if-place-ahead.true
        c.index_mut.ensures.value;
  },
)

pub index_mut-requires-then-index-eq0 : goal.index_mut-requires-then-index-eq0
index_mut-requires-then-index-eq0 c =
    (rw c.if-index-eq0.true at c.found_in-index.ensures).inner c.self.inside.first refl

pub returns-then-index-eq0 : goal.returns-then-index-eq0
returns-then-index-eq0 c =
    let inside = c.self.inside in
    let found = rw c.if-index-eq0.true at c.found_in-index.ensures in
    let ahead : c.args.place < length (entries_of (fronts inside)) = omega (arith, c.count_of-ahead.ensures, c.if-place-ahead.false) in (
      (
        refl,
        λ w. lent_there inside c.self.view_is found refl w
            (record inside { first = deque_with_item inside.first c.found_in-index.result.1 w }) refl refl ahead,
      ),
      record {
        writes_back = tt;
        value = one_there inside c.self.view_is found refl c.requires c.index_mut-then-index-eq0.ensures.value;
      },
    )

pub index_mut-requires-2 : goal.index_mut-requires-2
index_mut-requires-2 c =
    in_more c.self.inside c.self.view_is c.found_in-index.ensures c.if-index-eq0.false c.index_mut-segment.ensures.value

pub invariant_of-self-lent-2 : goal.invariant_of-self-lent-2
invariant_of-self-lent-2 c w =
    more_lent c.self.inside c.self.view_is c.found_in-index.ensures c.if-index-eq0.false c.index_mut-segment.ensures.value w
    c.self.invariant

pub returns : goal.returns
returns c =
    let inside = c.self.inside in
    let found = c.found_in-index.ensures in
    let behind = c.index_mut-segment.ensures.value in
    let ahead : c.args.place < length (entries_of (fronts inside)) = omega (arith, c.count_of-ahead.ensures, c.if-place-ahead.false) in (
      (refl, λ w. lent_more inside c.self.view_is found c.if-index-eq0.false behind w ahead),
      record {
        writes_back = tt;
        value = one_in_more inside c.self.view_is found c.if-index-eq0.false behind c.requires c.index_mut-2.ensures.value;
      },
    )
