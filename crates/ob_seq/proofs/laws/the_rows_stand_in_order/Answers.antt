use Rattle.ob_seq.proofs.Words.{◌≡◌, false, List, [], ◌∷◌, ◌++◌, refl, sym, subst, arith, AllByRecursion, Row, gone}
use Rattle.ob_seq.proofs.Words.{is_gone}
use Rattle.ob_seq.specs.Rows.{StandInOrder}
use Rattle.ob_seq.proofs.Rows.Order.{IsFresh, IsGone, IsStanding, layout_of, line_of_parts, unflushed_of_parts}
use Rattle.ob_seq.proofs.laws.the_rows_stand_in_order.Goals as goal

-- the rows that are gone are the first part
gone_of_parts : (away standing fresh : List Row) → AllByRecursion IsGone away → AllByRecursion IsStanding standing →
    AllByRecursion IsFresh fresh → gone (away ++ (standing ++ fresh)) ≡ away
gone_of_parts [] [] [] a b c = refl
gone_of_parts [] [] (row ∷ fresh) a b c = rw (c.0.place, gone_of_parts [] [] fresh tt tt c.1)
gone_of_parts [] (row ∷ standing) fresh a b c =
    let here : is_gone row.place ≡ false = grind (arith, b.0) in rw (here, gone_of_parts [] standing fresh tt b.1 c)
gone_of_parts (row ∷ away) standing fresh a b c = rw (a.0.place, gone_of_parts away standing fresh a.1 b c)

pub returns : goal.returns
returns c = record {
  order = λ estimate commands.
      let l = layout_of estimate commands in
      subst StandInOrder (sym l.is) (rw (
        gone_of_parts l.gone l.standing l.fresh l.all_gone l.all_standing l.all_fresh,
        line_of_parts l.gone l.standing l.fresh l.all_gone l.all_standing l.all_fresh,
        unflushed_of_parts l.gone l.standing l.fresh l.all_gone l.all_standing l.all_fresh,
      ));
}
