-- What was read of a text, line by line.
use Rattle.std.proofs.Common.{◌≡◌, ℕ, suc, ◌+◌, ◌-◌, ◌<◌, ◌≤◌, List, [], ◌∷◌, ◌++◌, length, map, take, drop, Bool, true, false, not, ltb, ◌==◌, All, Contains, Option, Some, None, option_to_list, unwrap_or, position, refl, sym, ap, ◌∙◌, subst, inl, inr, arith, length-append}
use Rattle.std.specs.List.{prefix_len, position_or_len}
use Rattle.std.proofs.lemmas.Bool.{ltb-false, cases_lt}
use Rattle.std.proofs.lemmas.Option.{none-some, same_Some}
use Rattle.std.proofs.lemmas.List.{map-append}
use Rattle.std.proofs.lemmas.List.Elements.{All-nil, All-cons, All-head, All-tail, All-append, All-contains, Contains-append_left, Contains-append_right, Contains-append_cases, Contains-push}
use Rattle.std.proofs.lemmas.List.Sums.{prefix_len-le-length}
use Rattle.base_types.specs.Sets.{SameElements}
use Rattle.base_types.proofs.Lists.{SameElements-refl, SameElements-trans}
use Rattle.term_store.specs.Store.{Grows}
use Rattle.term_store.specs.declared.statements.Quad.{Quad}
use Rattle.nquads.specs.Terms.{Statement}
use Rattle.nquads.specs.Spelling.{text_quad}
use Rattle.nquads.specs.Stored.{quad_texts, IsKnown}
use Rattle.nquads.specs.Reading.{is_line_end, IsLineAt, Says, StandsInText, SaysOneOf}
use Rattle.nquads.specs.declared.quads.TextQuad.{TextQuad}
use Rattle.nquads.specs.Internal.Lines.{first_line, line_tail, past_feed, past_line_end, after_line}
use Rattle.nquads.specs.Internal.Storing.{said_texts, KeepsLine, KeepsText}
use Rattle.nquads.proofs.TextLines.{Reached, reached-start, line_here, reached-next, next_line}
use Rattle.nquads.proofs.StoringLemmas.{quad_texts-Grows}

-- ---- the first line as the code cuts it

first_taken : (text : List ℕ) → take (prefix_len (λ c. not (is_line_end c)) text) text ≡ first_line text
first_taken [] = refl
first_taken (c ∷ cs) = go (is_line_end c) refl (first_taken cs)
  where
    go : (b : Bool) → is_line_end c ≡ b → take (prefix_len (λ c. not (is_line_end c)) cs) cs ≡ first_line cs → take (prefix_len (λ c. not (is_line_end c)) (c ∷ cs)) (c ∷ cs) ≡ first_line (c ∷ cs)
    go true e h = rw e refl
    go false e h =
        let more : 1 + prefix_len (λ c. not (is_line_end c)) cs ≡ suc (prefix_len (λ c. not (is_line_end c)) cs) = omega arith in
        rw (e, more, h) refl

tail_dropped : (text : List ℕ) → drop (prefix_len (λ c. not (is_line_end c)) text) text ≡ line_tail text
tail_dropped [] = refl
tail_dropped (c ∷ cs) = go (is_line_end c) refl (tail_dropped cs)
  where
    go : (b : Bool) → is_line_end c ≡ b → drop (prefix_len (λ c. not (is_line_end c)) cs) cs ≡ line_tail cs → drop (prefix_len (λ c. not (is_line_end c)) (c ∷ cs)) (c ∷ cs) ≡ line_tail (c ∷ cs)
    go true e h = rw e refl
    go false e h =
        let more : 1 + prefix_len (λ c. not (is_line_end c)) cs ≡ suc (prefix_len (λ c. not (is_line_end c)) cs) = omega arith in
        rw (e, more, h) refl

-- the place where the code cuts
pub line_len_is : (text : List ℕ) (o : Option ℕ) (n : ℕ) → o ≡ position is_line_end text → n ≡ unwrap_or o (length text) → n ≡ prefix_len (λ c. not (is_line_end c)) text
line_len_is text o n e is = is ∙ ap (λ (z : Option ℕ). unwrap_or z (length text)) e ∙ go (ltb (position_or_len is_line_end text) (length text)) refl
  where
    go : (t : Bool) → ltb (position_or_len is_line_end text) (length text) ≡ t → unwrap_or (position is_line_end text) (length text) ≡ prefix_len (λ c. not (is_line_end c)) text
    go true f = rw f refl
    go false f =
        let most = ltb-false (position_or_len is_line_end text) (length text) f in
        let least = prefix_len-le-length (λ c. not (is_line_end c)) text in
        rw f (omega (arith, most, least))

-- the line
pub line_is_cut : (text line : List ℕ) (o : Option ℕ) (n : ℕ) → o ≡ position is_line_end text → n ≡ unwrap_or o (length text) → line ≡ take n text → line ≡ first_line text
line_is_cut text line o n e is cut = cut ∙ ap (λ (k : ℕ). take k text) (line_len_is text o n e is) ∙ first_taken text

-- and what follows its end
pub more_is_cut : (text rest : List ℕ) (o : Option ℕ) (n : ℕ) (more : Option (List ℕ)) → o ≡ position is_line_end text → n ≡ unwrap_or o (length text) → rest ≡ drop n text → more ≡ past_line_end rest → more ≡ after_line text
more_is_cut text rest o n more e is cut past = past ∙ ap past_line_end (cut ∙ ap (λ (k : ℕ). drop k text) (line_len_is text o n e is) ∙ tail_dropped text)

-- the place fits
pub line_len_fits : (text : List ℕ) (o : Option ℕ) (n : ℕ) → o ≡ position is_line_end text → n ≡ unwrap_or o (length text) → n ≤ length text
line_len_fits text o n e is = let same = line_len_is text o n e is in let least = prefix_len-le-length (λ c. not (is_line_end c)) text in omega (arith, same, least)

-- ---- what was read

-- The lines before the rest were read, and what they say is kept.
pub record HasRead (bytes rest : List ℕ) (texts : List (List ℕ)) (quads : List Quad) : Type 0 where
  pub dataset : List Statement
  pub reached : Reached bytes (length bytes - length rest) rest
  pub lines : (m : ℕ) (l : List ℕ) → IsLineAt bytes m l → m < length bytes - length rest → SaysOneOf dataset l
  pub statements : All (StandsInText bytes) dataset
  pub known : All (IsKnown texts) quads
  pub same : SameElements (map (quad_texts texts) quads) (map text_quad dataset)

-- at first nothing
pub HasRead-start : (bytes : List ℕ) (texts : List (List ℕ)) → HasRead bytes bytes texts []
HasRead-start bytes texts = record {
  dataset = [];
  reached = subst (λ (n : ℕ). Reached bytes n bytes) none (reached-start bytes);
  lines = λ m l s k. absurd (omega arith);
  statements = All-nil (StandsInText bytes);
  known = All-nil (IsKnown texts);
  same = SameElements-refl [];
}
  where
    none : 0 ≡ length bytes - length bytes
    none = omega arith

-- the rest is no longer than the text
pub rest_fits : (bytes rest : List ℕ) (texts : List (List ℕ)) (quads : List Quad) → HasRead bytes rest texts quads → length rest ≤ length bytes
rest_fits bytes rest texts quads h =
    let sizes : length bytes ≡ length (h.reached).before + length rest = ap length (h.reached).is ∙ length-append (h.reached).before rest in
    omega (arith, sizes)

-- ---- one line more

-- the same texts as the store grows
pub texts_kept : (old new : List (List ℕ)) (quads : List Quad) → Grows old new → All (IsKnown old) quads → map (quad_texts new) quads ≡ map (quad_texts old) quads
texts_kept old new [] g a = refl
texts_kept old new (q ∷ qs) g a =
    let first = quad_texts-Grows old new q g (All-head (IsKnown old) q qs a) in
    let rest = texts_kept old new qs g (All-tail (IsKnown old) q qs a) in
    λ i. first i ∷ rest i

same_appended : {X : Type 0} (xs ys zs : List X) → SameElements xs ys → SameElements (xs ++ zs) (ys ++ zs)
same_appended {X = X} xs ys zs s x = (one xs ys (λ m. (s x).0 m), one ys xs (λ m. (s x).1 m))
  where
    one : (us vs : List X) → (Contains us x → Contains vs x) → Contains (us ++ zs) x → Contains (vs ++ zs) x
    one us vs f m = elim (Contains-append_cases us zs x m) [ inl a ↦ Contains-append_left vs zs x (f a) | inr b ↦ Contains-append_right vs zs x b ]

more_texts : (q : List Statement) (said : Option Statement) → map text_quad (q ++ option_to_list said) ≡ map text_quad q ++ said_texts said
more_texts q None = map-append text_quad q []
more_texts q (Some s) = map-append text_quad q (s ∷ [])

one_of_more : (q : List Statement) (said : Option Statement) (l : List ℕ) → SaysOneOf q l → SaysOneOf (q ++ option_to_list said) l
one_of_more q said l o = elim o [ inl n ↦ inl n | inr t ↦ inr (t.0, Contains-append_left q (option_to_list said) t.0 t.1, t.2) ]

one_of_said : (q : List Statement) (said : Option Statement) (l : List ℕ) → Says l said → SaysOneOf (q ++ option_to_list said) l
one_of_said q None l s = inl s
one_of_said q (Some t) l s = inr (t, Contains-push q t, s)

said_stands : (bytes : List ℕ) (at : ℕ) (l : List ℕ) (said : Option Statement) → IsLineAt bytes at l → Says l said → All (StandsInText bytes) (option_to_list said)
said_stands bytes at l None i s = All-nil (StandsInText bytes)
said_stands bytes at l (Some t) i s = All-cons (StandsInText bytes) t [] (record { at = at; line = l; stands = i; says = s }) (All-nil (StandsInText bytes))

-- the lines up to this one were read
record Further (bytes rest : List ℕ) (texts : List (List ℕ)) (quads : List Quad) : Type 0 where
  dataset : List Statement
  before : (m : ℕ) (l : List ℕ) → IsLineAt bytes m l → m < length bytes - length rest → SaysOneOf dataset l
  here : SaysOneOf dataset (first_line rest)
  statements : All (StandsInText bytes) dataset
  known : All (IsKnown texts) quads
  same : SameElements (map (quad_texts texts) quads) (map text_quad dataset)

further : (bytes rest : List ℕ) (old new : List (List ℕ)) (quads all : List Quad) → HasRead bytes rest old quads → Grows old new → KeepsLine (first_line rest) new quads all → Further bytes rest new all
further bytes rest old new quads all h g k = record {
  dataset = h.dataset ++ option_to_list k.said;
  before = λ m l s b. one_of_more h.dataset k.said l (h.lines m l s b);
  here = one_of_said h.dataset k.said (first_line rest) k.says;
  statements = All-append (StandsInText bytes) h.dataset (option_to_list k.said) h.statements
      (said_stands bytes (length bytes - length rest) (first_line rest) k.said (line_here bytes (length bytes - length rest) rest h.reached) k.says);
  known = k.known;
  same = subst (SameElements (map (quad_texts new) all)) (sym (more_texts h.dataset k.said))
      (SameElements-trans (map (quad_texts new) all) (map (quad_texts new) quads ++ said_texts k.said) (map text_quad h.dataset ++ said_texts k.said) k.same
      (same_appended (map (quad_texts new) quads) (map text_quad h.dataset) (said_texts k.said)
      (subst (λ (ts : List TextQuad). SameElements ts (map text_quad h.dataset)) (sym (texts_kept old new quads g h.known)) h.same)));
}

-- a line and its end were read
pub HasRead-next : (bytes rest more : List ℕ) (old new : List (List ℕ)) (quads all : List Quad) → HasRead bytes rest old quads → Grows old new → KeepsLine (first_line rest) new quads all → after_line rest ≡ Some more → HasRead bytes more new all
HasRead-next bytes rest more old new quads all h g k e =
    let f = further bytes rest old new quads all h g k in
    record {
      dataset = f.dataset;
      reached = reached-next bytes (length bytes - length rest) rest more h.reached e;
      lines = each f;
      statements = f.statements;
      known = f.known;
      same = f.same;
    }
  where
    each : (f : Further bytes rest new all) (m : ℕ) (l : List ℕ) → IsLineAt bytes m l → m < length bytes - length more → SaysOneOf f.dataset l
    each f m l s b =
        elim (cases_lt m (length bytes - length rest)) [
          | inl c ↦ f.before m l s c
          | inr c ↦ elim (next_line bytes (length bytes - length rest) rest m l h.reached s c) [
            | inl n ↦ subst (SaysOneOf f.dataset) (sym n.1) f.here
            | inr n ↦
                let same : n.0 ≡ more = same_Some n.0 more (sym n.1 ∙ e) in
                let late : length bytes - length more ≤ m = subst (λ (z : List ℕ). length bytes - length z ≤ m) same n.2 in
                absurd (omega (arith, b, late))
          ]
        ]

-- the last line was read
pub HasRead-end : (bytes rest : List ℕ) (old new : List (List ℕ)) (quads all : List Quad) → HasRead bytes rest old quads → Grows old new → KeepsLine (first_line rest) new quads all → after_line rest ≡ None → KeepsText bytes new all
HasRead-end bytes rest old new quads all h g k e =
    let f = further bytes rest old new quads all h g k in
    record {
      dataset = f.dataset;
      says = record { lines = each f; statements = λ s m. All-contains (StandsInText bytes) f.dataset s f.statements m };
      known = f.known;
      same = f.same;
    }
  where
    each : (f : Further bytes rest new all) (m : ℕ) (l : List ℕ) → IsLineAt bytes m l → SaysOneOf f.dataset l
    each f m l s =
        elim (cases_lt m (length bytes - length rest)) [
          | inl c ↦ f.before m l s c
          | inr c ↦ elim (next_line bytes (length bytes - length rest) rest m l h.reached s c) [
            | inl n ↦ subst (SaysOneOf f.dataset) (sym n.1) f.here
            | inr n ↦ absurd (none-some n.0 (sym e ∙ n.1))
          ]
        ]

shorter_end : (tail more : List ℕ) → past_line_end tail ≡ Some more → length more < length tail
shorter_end [] more e = absurd (none-some more e)
shorter_end (c ∷ cs) more e = go (c == 13) refl (feed_shorter cs)
  where
    feed_shorter : (xs : List ℕ) → length (past_feed xs) ≤ length xs
    feed_shorter [] = omega arith
    feed_shorter (x ∷ xs) = by (x == 10) refl
      where
        by : (b : Bool) → (x == 10) ≡ b → length (past_feed (x ∷ xs)) ≤ length (x ∷ xs)
        by true f = rw f (omega arith)
        by false f = rw f (omega arith)

    go : (b : Bool) → (c == 13) ≡ b → length (past_feed cs) ≤ length cs → length more < length (c ∷ cs)
    go true f h = let same : past_feed cs ≡ more = same_Some (past_feed cs) more (rw f at e) in let size : length (past_feed cs) ≡ length more = ap length same in omega (arith, h, size)
    go false f h = let same : cs ≡ more = same_Some cs more (rw f at e) in let size : length cs ≡ length more = ap length same in omega (arith, size)

tail_fits : (text : List ℕ) → length (line_tail text) ≤ length text
tail_fits [] = omega arith
tail_fits (c ∷ cs) = go (is_line_end c) refl (tail_fits cs)
  where
    go : (b : Bool) → is_line_end c ≡ b → length (line_tail cs) ≤ length cs → length (line_tail (c ∷ cs)) ≤ length (c ∷ cs)
    go true e h = rw e (omega arith)
    go false e h = rw e (omega (arith, h))

-- what follows a line and its end is shorter
pub rest_shorter : (rest more : List ℕ) → Some more ≡ after_line rest → length more < length rest
rest_shorter rest more e = let a = shorter_end (line_tail rest) more (sym e) in let b = tail_fits rest in omega (arith, a, b)
