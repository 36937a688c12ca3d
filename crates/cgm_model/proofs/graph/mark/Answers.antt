use Rattle.cgm_model.specs.Search.{state}
use Rattle.cgm_model.proofs.Marking.{MarksEach-old, MarksEach-new, free_place}
use Rattle.cgm_model.proofs.graph.mark.Goals as goal

pub returns-then-marks-element : goal.returns-then-marks-element
returns-then-marks-element c =
    MarksEach-old (state c.args.marks.now c.args.queue.now c.args.count) c.args.element c.requires.search c.if-marks-element.true

pub bounds-queue-count : goal.bounds-queue-count
bounds-queue-count c =
    free_place (state c.args.marks.now c.args.queue.now c.args.count) c.args.element c.requires.search c.requires.known c.if-marks-element.false

pub returns : goal.returns
returns c =
    MarksEach-new (state c.args.marks.now c.args.queue.now c.args.count) c.args.element c.requires.search c.requires.known c.if-marks-element.false
