use Rattle.region.proofs.cover.Cover.+build.Given as goal

abbrev pub decreases-build : goal.decreases-build
decreases-build l = l.count
