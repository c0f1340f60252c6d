use Rattle.std.proofs.Common.{◌∙◌, ◌-◌, inl, inr, arith}
use Rattle.surf_obj.specs.View.{view_layout}
use Rattle.surf_obj.proofs.PartLemmas.{get_or-put_mid_inside, get_or-put_mid_outside, part-fits, length-part, part-values}
use Rattle.surf_obj.proofs.view.LentView.read_whole.Goals as goal

pub read_values-requires-clause-room : goal.read_values-requires-clause-room
read_values-requires-clause-room c =
    let start = c.requires.start (omega arith) in
    rw (length-part c.args.out.now c.args.from c.args.to c.requires.within, c.place-at.ensures)
    (omega (
      arith,
      part-fits (view_layout c.args.self.now) c.args.x c.args.y c.args.from c.args.to start c.requires.order c.requires.count
          (omega arith) c.requires.row c.args.self.now.holds.columns,
      c.args.self.now.holds.rows,
    ))

pub returns-clause-values : goal.returns-clause-values
returns-clause-values c k from to =
    let start = c.requires.start (omega arith) in
    let long = length-part c.args.out.now c.args.from c.args.to c.requires.within in
    get_or-put_mid_inside c.args.from (c.args.to - c.args.from) c.args.out.now c.read_values.new.out k (c.read_values.auto.out ∙ long)
    (omega (arith, c.requires.within)) from (omega arith)
    ∙ c.read_values.ensures.values (k - c.args.from) (omega (arith, long))
    ∙ part-values (view_layout c.args.self.now) c.args.self.now.bits.now c.args.x c.args.y c.args.from _ k start c.place-at.ensures from
    (omega arith) c.requires.row

pub returns-clause-fits : goal.returns-clause-fits
returns-clause-fits c k from to =
    let long = length-part c.args.out.now c.args.from c.args.to c.requires.within in
    rw (get_or-put_mid_inside c.args.from (c.args.to - c.args.from) c.args.out.now c.read_values.new.out k (c.read_values.auto.out ∙ long)
    (omega (arith, c.requires.within)) from (omega arith))
    (c.read_values.ensures.fits (k - c.args.from) 0 (omega (arith, long, c.read_values.auto.out)))

pub returns-clause-others : goal.returns-clause-others
returns-clause-others c k out =
    let long = length-part c.args.out.now c.args.from c.args.to c.requires.within in
    get_or-put_mid_outside c.args.from (c.args.to - c.args.from) c.args.out.now c.read_values.new.out k (c.read_values.auto.out ∙ long)
    (omega (arith, c.requires.within)) (elim out [ inl before ↦ inl before | inr after ↦ inr (omega arith) ])
