use Rattle.std.proofs.Common.{◌∙◌, ap, sym, subst, Bool}
use Rattle.std.proofs.lemmas.Bool.{false≢true}
use Rattle.geom_base.specs.declared.rect.Rect.{Rect}
use Rattle.geom_base.specs.Points.{LiesIn, RectMoves, moved_rect}
use Rattle.clip_obj.specs.Clip.{to_origin}
use Rattle.script_orders.specs.Asked.{IsSurfaceSize}
use Rattle.desk_span.specs.InnerPieces.{aimed, screen_call}
use Rattle.desk_span.specs.Kept.{ScreenKept}
use Rattle.desk_span.proofs.FrameLemmas.{frame_back, frame_can_move}
use Rattle.desk_span.proofs.PieceLemmas.{coordinates_aimed, owns_desk, piece_met, piece_points, piece_unmet}
use Rattle.desk_span.proofs.screen.Screen.piece.Goals as goal

pub frame-requires : goal.frame-requires
frame-requires c = rw c.aimed-call.ensures (coordinates_aimed c.is_own-own.result _ c.call.ensures.coordinates)

pub returns-then-not-meets-clause-none : goal.returns-then-not-meets-clause-none
returns-then-not-meets-clause-none c =
    let w = c.args.self.now in
    let d = c.args.command.now in
    let own = c.is_own-own.result in
    piece_unmet w d own c.aimed-call.result c.frame.result (c.is_own-own.ensures ∙ owns_desk d.target d.source c.requires.target)
    (c.aimed-call.ensures ∙ ap (aimed own) c.call.ensures.call) c.frame.ensures.points c.shifted-asked.result
    (c.shifted-asked.ensures.edges ∙ ap (λ (k : ScreenKept). moved_rect c.frame.result k.at) c.self.view_is)
    (λ m. false≢true (sym c.if-not-meets.true ∙ (rw c.region_of.ensures at c.meets.ensures).1 m))

pub returns-clause-some : goal.returns-clause-some
returns-clause-some c =
    let w = c.args.self.now in
    let d = c.args.command.now in
    let own = c.is_own-own.result in
    let owns = c.is_own-own.ensures ∙ owns_desk d.target d.source c.requires.target in
    let call = c.aimed-call.ensures ∙ ap (aimed own) c.call.ensures.call in
    let asked = c.shifted-asked.ensures.edges ∙ ap (λ (k : ScreenKept). moved_rect c.frame.result k.at) c.self.view_is in
    record {
      call = call ∙ ap (λ (o : Bool). aimed o (screen_call w d)) c.is_own-own.ensures;
      moves = subst (RectMoves (to_origin w.at)) (sym asked) (frame_can_move c.frame.result w.size w.at (subst (λ (k : ScreenKept). IsSurfaceSize k.size) c.self.view_is c.self.invariant.1) c.frame.ensures.inside);
      inside = subst (λ (r : Rect). LiesIn r w.size) (sym (ap (λ (r : Rect). moved_rect r (to_origin w.at)) asked ∙ frame_back c.frame.result w.at)) c.frame.ensures.inside;
      points = piece_points w d own c.aimed-call.result c.frame.result owns call c.frame.ensures.points c.shifted-asked.result asked;
      reached = piece_met w d own c.aimed-call.result c.frame.result owns call c.frame.ensures.points c.shifted-asked.result asked c.frame.ensures.inside
          ((rw c.region_of.ensures at c.meets.ensures).0 c.if-not-meets.false);
    }
