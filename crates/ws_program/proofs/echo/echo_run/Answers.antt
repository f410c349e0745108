use Rattle.ws_program.proofs.All.{◌≡◌, [], ◌++◌, drop, take, length, refl, rules, arith, length-drop, length-take, ◌∙◌, Consumes-nil, Consumes-trans, TooLong, TellsAlike-trans, Refused, tells_alike_same, stands_first, stands_short, stands_then, echo_then, done_closed, front_written, no_further, nothing_further, Piece, piece_read, echo_start, past_too_long, past_no_further, unmoved_no_further}
use Rattle.std.proofs.Common.{length-append}
use Rattle.ws_program.proofs.echo.echo_run.Goals as goal

pub reads-init : goal.reads-init
reads-init g c = record {
  stands = ([], Consumes-nil _, echo_start c.args.max_message _, stands_first c.args.max_message c.in-Ok.reader c.in-Ok.ensures.ahead c.in-Ok.ensures.room c.in-Ok.ensures.goes_on, omega arith);
  length = search rules;
  empty = search rules;
  source_tells = tells_alike_same _;
  sink_tells = tells_alike_same _;
  read_unfailing = search rules;
  write_unfailing = search rules;
}

pub answer_octets-requires-clause-short : goal.answer_octets-requires-clause-short
answer_octets-requires-clause-short g c =
    let (came, took, wrote, stands, sum) = c.reads.invariant.stands in
    stands_short c.args.max_message came (take c.in-Octets.count (c.read.new.room ++ drop c.min-most.result c.reads.octets)) c.reads.reader c.requires.most stands

pub reads-preserved : goal.reads-preserved
reads-preserved g c =
    let (came, took, wrote, stands, sum) = c.reads.invariant.stands in
    let octets = take c.in-Octets.count (c.read.new.room ++ drop c.min-most.result c.reads.octets) in
    let piece : Piece (take c.in-Octets.count (c.read.new.room ++ drop c.min-most.result c.reads.octets)) c.in-Octets.count c.min-most.result (g.S.Source.left c.reads.source) (g.S.Source.left c.read.new.self) =
    piece_read c.in-Octets.count c.min-most.result c.reads.octets c.read.new.room (drop c.min-most.result c.reads.octets) _ _ c.in-Octets.ensures.within.1 c.read.auto.room c.in-Octets.ensures.octets in
    let (events, told, wrote', none, all, goes, few) = c.in-All.ensures.octets in
    record {
      stands = (
        came ++ octets,
        Consumes-trans _ _ _ came octets took piece.took,
        echo_then c.args.max_message came octets c.reads.reader c.answer_octets.new.reader events _ _ _ stands told all wrote wrote',
        stands_then c.args.max_message came octets c.reads.reader c.answer_octets.new.reader events stands told all none goes few,
        omega (arith, length-append came octets),
      );
      length = omega (arith, length-append c.read.new.room (drop c.min-most.result c.reads.octets), length-drop c.min-most.result c.reads.octets, length-take c.min-most.result c.reads.octets);
      empty = c.in-All.ensures.empty refl;
      source_tells = TellsAlike-trans _ _ _ c.reads.invariant.source_tells c.in-Octets.ensures.tells;
      sink_tells = TellsAlike-trans _ _ _ c.reads.invariant.sink_tells c.in-All.ensures.tells;
      read_unfailing = c.in-Octets.ensures.cause ∙ c.reads.invariant.read_unfailing;
      write_unfailing = c.in-All.ensures.cause ∙ c.reads.invariant.write_unfailing;
    }

pub returns-in_default : goal.returns-in_default
returns-in_default g c =
    let further = nothing_further c.args.max_message (g.S.Source.left c.args.source.now) in
    search rules

pub returns-in_default-new : goal.returns-in_default-new
returns-in_default-new g c =
    let further = nothing_further c.args.max_message (g.S.Source.left c.args.source.now) in
    search rules

pub returns-in-Closed : goal.returns-in-Closed
returns-in-Closed g c =
    let (came, took, wrote, stands, sum) = c.reads.invariant.stands in
    let octets = take c.in-Octets.count (c.read.new.room ++ drop c.min-most.result c.reads.octets) in
    let piece : Piece (take c.in-Octets.count (c.read.new.room ++ drop c.min-most.result c.reads.octets)) c.in-Octets.count c.min-most.result (g.S.Source.left c.reads.source) (g.S.Source.left c.read.new.self) =
    piece_read c.in-Octets.count c.min-most.result c.reads.octets c.read.new.room (drop c.min-most.result c.reads.octets) _ _ c.in-Octets.ensures.within.1 c.read.auto.room c.in-Octets.ensures.octets in
    let (events, told, wrote', last) = c.in-Closed.ensures.octets in
    let done = done_closed c.args.max_message c.reads.left came octets c.reads.reader c.answer_octets.new.reader events _ _ _ _ _ _ stands told last took piece.took wrote wrote' sum (omega arith) in
    let further = no_further c.args.max_message c.reads.left came octets c.reads.reader _ _ _ stands took piece.took sum (omega arith) (omega arith) in
    search rules

pub returns-in-Failed-answer_octets : goal.returns-in-Failed-answer_octets
returns-in-Failed-answer_octets g c =
    let (came, took, wrote, stands, sum) = c.reads.invariant.stands in
    let octets = take c.in-Octets.count (c.read.new.room ++ drop c.min-most.result c.reads.octets) in
    let piece : Piece (take c.in-Octets.count (c.read.new.room ++ drop c.min-most.result c.reads.octets)) c.in-Octets.count c.min-most.result (g.S.Source.left c.reads.source) (g.S.Source.left c.read.new.self) =
    piece_read c.in-Octets.count c.min-most.result c.reads.octets c.read.new.room (drop c.min-most.result c.reads.octets) _ _ c.in-Octets.ensures.within.1 c.read.auto.room c.in-Octets.ensures.octets in
    let front = front_written c.args.max_message came octets c.reads.reader _ _ _ _ _ _ stands took piece.took wrote c.in-Failed-answer_octets.ensures.octets in
    let further = no_further c.args.max_message c.reads.left came octets c.reads.reader _ _ _ stands took piece.took sum (omega arith) (omega arith) in
    search rules

pub returns-in-Failed : goal.returns-in-Failed
returns-in-Failed g c =
    let (came, took, wrote, stands, sum) = c.reads.invariant.stands in
    let further = unmoved_no_further c.args.max_message c.reads.left came c.reads.reader _ _ _ stands took c.in-Failed.ensures.octets sum in
    search rules

pub returns : goal.returns
returns g c =
    let (came, took, wrote, stands, sum) = c.reads.invariant.stands in
    let full : length came ≡ 67108864 = omega arith in
    let further = past_no_further c.past_the_limit.result c.args.max_message came c.reads.reader _ _ _ _ _ c.past_the_limit.ensures.ends stands took full in
    let long = λ (is : c.past_the_limit.result ≡ Refused 0 TooLong). past_too_long c.past_the_limit.result c.args.max_message came c.reads.reader _ _ _ _ _ _ _ c.past_the_limit.ensures.ends is stands took wrote full in
    search rules
