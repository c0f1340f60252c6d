use Rattle.desk_span.proofs.FrameLemmas.{met_alone}
use Rattle.desk_span.proofs.draw.meets.Goals as goal

pub returns-in-None : goal.returns-in-None
returns-in-None c =
    rw c.in-None.is (
      λ h. (met_alone c.args.frame.now).0 (c.has_points.ensures.points.0 h),
      λ m. c.has_points.ensures.points.1 ((met_alone c.args.frame.now).1 m),
    )
