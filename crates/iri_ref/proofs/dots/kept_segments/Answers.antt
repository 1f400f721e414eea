use Rattle.std.proofs.Common.{◌≡◌, ◌≢◌, ◌∙◌, ℕ, ◌<◌, ap, refl, length, get_or, Some, None, lit<, ◌++◌, ◌∷◌}
use Rattle.std.proofs.lemmas.Str.Pattern.{split_parts}
use Rattle.iri_ref.specs.Internal.Pieces.{borrowed_texts}
use Rattle.iri_ref.proofs.Walk.{later_text, kept_step, end_dot, end_plain}
use Rattle.iri_ref.proofs.dots.kept_segments.Goals as goal
use Rattle.iri_ref.proofs.dots.kept_segments.Goals.{then-is_dot_segment+in_ok-push, else-is_dot_segment}

pub loop-segment-preserved : goal.loop-segment-preserved
loop-segment-preserved c =
    let parts : (c.loop-segment.rest.now ≡ c.in-Some.segment.now ++ (47 ∷ c.in-Some.later.now)) × ((i : ℕ) → i < length c.in-Some.segment.now → get_or c.in-Some.segment.now i 0 ≢ 47) = split_parts 47 c.loop-segment.rest.now (Some (c.in-Some.segment, c.in-Some.later)) c.in-Some.ensures.cases (lit< tt) in (
      later_text c.loop-segment.rest.now c.in-Some.segment.now c.in-Some.later.now c.loop-segment.invariant.0 parts.0,
      kept_step (borrowed_texts c.loop-segment.kept.items) (borrowed_texts c.keep.new.kept.items) c.loop-segment.rest.now c.in-Some.segment.now c.in-Some.later.now parts.0 parts.1 c.in_ok-keep.ensures ∙ c.loop-segment.invariant.1,
    )

pub returns : goal.returns
returns c =
    let none : (i : ℕ) → i < length c.loop-segment.rest.now → get_or c.loop-segment.rest.now i 0 ≢ 47 = split_parts 47 c.loop-segment.rest.now None c.in_default.ensures.cases (lit< tt) in
    elim c.if-is_dot_segment.branch [
      | then-is_dot_segment+in_ok-push w ↦
          ap (λ v. borrowed_texts v.items) w.kept-is ∙ (end_dot (borrowed_texts c.loop-segment.kept.items) c.keep-2.new.kept.items w.push.new.self.items _ c.loop-segment.rest.now none c.in_ok-keep-2.ensures w.if-is_dot_segment.ensures refl w.in_ok-push.ensures.items ∙ c.loop-segment.invariant.1)
      | else-is_dot_segment w ↦
          ap (λ v. borrowed_texts v.items) w.kept-is ∙ (end_plain (borrowed_texts c.loop-segment.kept.items) c.keep-2.new.kept.items c.loop-segment.rest.now none c.in_ok-keep-2.ensures w.if-is_dot_segment.ensures ∙ c.loop-segment.invariant.1)
    ]
