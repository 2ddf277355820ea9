use Rattle.pg_resolve.proofs.ListLaws.{comma_next, listed_next}
use Rattle.pg_resolve.proofs.listing.lookup_of.Goals as goal

pub loop-item-preserved : goal.loop-item-preserved
loop-item-preserved g c = record {
  comma = comma_next _ c.loop-item.item-index c.item-item.result c.loop-item-test.true c.item-item.is;
  text = listed_next g.T.Listed.text _ c.loop-item.item-index c.item-item.result _ _ _ _ _ c.loop-item-test.true c.item-item.is c.loop-item.invariant.comma c.loop-item.invariant.text c.in_ok-push_str.ensures.bytes c.in_ok-push_text.ensures;
}
