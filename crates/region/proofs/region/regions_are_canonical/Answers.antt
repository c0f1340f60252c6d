use Rattle.region.proofs.RegionLemmas.{region_is_unique}
use Rattle.region.proofs.OrderLemmas.{region_in_order}
use Rattle.region.proofs.BoundsLemmas.{rect_is_region}
use Rattle.region.proofs.LengthLemmas.{made_of_is_few, difference_is_few}
use Rattle.region.proofs.CanonicalLaws.{canonical_is_region, answer_is_canonical}
use Rattle.region.proofs.MovedLaws.{region_moves}
use Rattle.region.proofs.region.regions_are_canonical.Goals as goal

pub returns-clause-unique : goal.returns-clause-unique
returns-clause-unique c = region_is_unique

pub returns-clause-in_order : goal.returns-clause-in_order
returns-clause-in_order c = region_in_order

pub returns-clause-canonical : goal.returns-clause-canonical
returns-clause-canonical c = canonical_is_region

pub returns-clause-answers : goal.returns-clause-answers
returns-clause-answers c = answer_is_canonical

pub returns-clause-single : goal.returns-clause-single
returns-clause-single c = rect_is_region

pub returns-clause-made : goal.returns-clause-made
returns-clause-made c = made_of_is_few

pub returns-clause-difference : goal.returns-clause-difference
returns-clause-difference c = difference_is_few

pub returns-clause-moved : goal.returns-clause-moved
returns-clause-moved c = region_moves
