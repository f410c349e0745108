use Rattle.frame_reader.proofs.All.{◌∙◌, sym, refl, same_first, same_over, refused_first, two_of, refused_second, refused_top, refused_over, whole_header}
use Rattle.frame_reader.proofs.header.header_at.Goals as goal

pub returns-then-refuses_first : goal.returns-then-refuses_first
returns-then-refuses_first c = λ begun d.
    refused_first c.args.message.max_message begun c.args.raw.now c.in-Some.first.now c.in-Some.rest.now c.in-Some.ensures.cases.0
    (same_first c.args.message begun c.in-Some.first.now d ∙ sym c.refuses_first.ensures ∙ c.if-refuses_first.true)

pub returns-then-refuses_second : goal.returns-then-refuses_second
returns-then-refuses_second c = λ begun d.
    refused_second c.args.message.max_message begun c.args.raw.now c.in-Some.first.now c.in-Some-split_first.second.now c.in-Some-split_first.rest.now
    (two_of begun c.args.raw.now c.in-Some.first.now c.in-Some-split_first.second.now c.in-Some.rest.now c.in-Some-split_first.rest.now c.in-Some.ensures.cases.0 c.in-Some-split_first.ensures.cases.0
    (same_first c.args.message begun c.in-Some.first.now d ∙ sym c.refuses_first.ensures ∙ c.if-refuses_first.false))
    (sym c.refuses_second.ensures ∙ c.if-refuses_second.true)

pub returns-then-has_top_bit : goal.returns-then-has_top_bit
returns-then-has_top_bit c = λ begun d.
    refused_top c.args.message.max_message begun c.args.raw.now c.in-Some.first.now c.in-Some-split_first.second.now c.in-Some-split_first.rest.now c.in-Some-size_at.size c.in-Some-size_at.rest.now
    (record {
      two = two_of begun c.args.raw.now c.in-Some.first.now c.in-Some-split_first.second.now c.in-Some.rest.now c.in-Some-split_first.rest.now c.in-Some.ensures.cases.0 c.in-Some-split_first.ensures.cases.0
          (same_first c.args.message begun c.in-Some.first.now d ∙ sym c.refuses_first.ensures ∙ c.if-refuses_first.false);
      second_fine = sym c.refuses_second.ensures ∙ c.if-refuses_second.false;
      size_is = sym c.in-Some-size_at.ensures;
    })
    (sym c.has_top_bit.ensures ∙ c.if-has_top_bit.true)

pub returns-then-is_over : goal.returns-then-is_over
returns-then-is_over c = λ begun d.
    refused_over c.args.message.max_message begun c.args.raw.now c.in-Some.first.now c.in-Some-split_first.second.now c.in-Some-split_first.rest.now c.in-Some-size_at.size c.in-Some-size_at.rest.now
    (record {
      two = two_of begun c.args.raw.now c.in-Some.first.now c.in-Some-split_first.second.now c.in-Some.rest.now c.in-Some-split_first.rest.now c.in-Some.ensures.cases.0 c.in-Some-split_first.ensures.cases.0
          (same_first c.args.message begun c.in-Some.first.now d ∙ sym c.refuses_first.ensures ∙ c.if-refuses_first.false);
      second_fine = sym c.refuses_second.ensures ∙ c.if-refuses_second.false;
      size_is = sym c.in-Some-size_at.ensures;
    })
    (sym c.has_top_bit.ensures ∙ c.if-has_top_bit.false)
    (same_over c.args.message begun c.in-Some.first.now c.in-Some-size_at.size d ∙ sym c.is_over.ensures ∙ c.if-is_over.true)

pub returns : goal.returns
returns c = λ begun d.
    let taken = c.in-Some-split_first_chunk.ensures.cases in
    whole_header c.args.message.max_message begun c.args.raw.now c.in-Some.first.now c.in-Some-split_first.second.now c.in-Some-split_first.rest.now c.in-Some-size_at.size c.in-Some-size_at.rest.now
    c.in-Some-split_first_chunk.key.now c.in-Some-split_first_chunk.rest.now _
    (record {
      sized = record {
        two = two_of begun c.args.raw.now c.in-Some.first.now c.in-Some-split_first.second.now c.in-Some.rest.now c.in-Some-split_first.rest.now c.in-Some.ensures.cases.0 c.in-Some-split_first.ensures.cases.0
            (same_first c.args.message begun c.in-Some.first.now d ∙ sym c.refuses_first.ensures ∙ c.if-refuses_first.false);
        second_fine = sym c.refuses_second.ensures ∙ c.if-refuses_second.false;
        size_is = sym c.in-Some-size_at.ensures;
      };
      low = sym c.has_top_bit.ensures ∙ c.if-has_top_bit.false;
      fits = same_over c.args.message begun c.in-Some.first.now c.in-Some-size_at.size d ∙ sym c.is_over.ensures ∙ c.if-is_over.false;
    })
    c.in-Some-split_first_chunk.ensures.cases.0 c.in-Some-split_first_chunk.ensures.cases.1 c.in-Some-split_first_chunk.ensures.cases.2
    c.is_final.ensures c.opcode_of.ensures refl refl refl
