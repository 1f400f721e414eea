-- What the numbers of a store keep as it grows, and what `intern` leaves.
use Rattle.std.proofs.Common.{◌≡◌, ℕ, ◌+◌, ◌<◌, ◌≤◌, Bool, true, false, cond, ltb, not, List, [], ◌∷◌, ◌++◌, map, length, get_or, slice_get, position, option_map, Some, None, refl, sym, ap, ◌∙◌, ⊎_elim, arith, if◌then◌else◌}
use Rattle.std.specs.List.{list_any, position_or_len, IsDistinct, AllByRecursion}
use Rattle.std.specs.Str.{bytes_eq}
use Rattle.std.proofs.lemmas.Bool.{cases_lt}
use Rattle.std.proofs.lemmas.List.{append-nil, append_assoc, get_or_append_left, length-append, length-map, map-append}
use Rattle.std.proofs.lemmas.List.Quantifiers.{position-Some}
use Rattle.std.proofs.lemmas.Map.Keys.{any_passes_from_place}
use Rattle.std.proofs.lemmas.Map.Made.{AllPairs-from_IsDistinct}
use Rattle.std.proofs.lemmas.Option.{slice_get-map, slice_get-get_or, slice_get_within, get_or_from_slice_get}
use Rattle.std.proofs.lemmas.Slice.Eq.{bytes_eq-Decides}
use Rattle.indexmap.specs.IndexSet.{insert_key}
use Rattle.base_types.specs.Sets.{AllDiffer}
use Rattle.base_types.proofs.Lists.{list_any-map}
use Rattle.base_types.proofs.Orders.{bytes_eq-same}
use Rattle.term_store.specs.Store.{text_at, with_text, IsStore, Grows, Interns}
use Rattle.term_store.specs.declared.store.TermId.{TermId}

-- ---- growth

-- a store is grown from itself
pub Grows-refl : (texts : List (List ℕ)) → Grows texts texts
Grows-refl texts = record { rest = []; is = sym (append-nil texts) }

-- and over a store between
pub Grows-trans : (a b c : List (List ℕ)) → Grows a b → Grows b c → Grows a c
Grows-trans a b c g h = record { rest = g.rest ++ h.rest; is = h.is ∙ ap (λ l. l ++ h.rest) g.is ∙ append_assoc a g.rest h.rest }

-- a store grows by a text that is put in
pub Grows-with_text : (texts : List (List ℕ)) (text : List ℕ) → Grows texts (with_text texts text)
Grows-with_text texts text = by (list_any (bytes_eq text) texts)
  where
    by : (b : Bool) → Grows texts (if b then texts else texts ++ text ∷ [])
    by true = Grows-refl texts
    by false = record { rest = text ∷ []; is = refl }

-- a number keeps its text as the store grows
pub text_at-Grows : (old new : List (List ℕ)) (id : TermId) → Grows old new → id.index < length old → text_at new id ≡ text_at old id
text_at-Grows old new id g below = ap (λ l. get_or l id.index []) g.is ∙ get_or_append_left old g.rest [] id.index below

-- two numbers of one text are one
pub text_at-one : (texts : List (List ℕ)) → AllDiffer texts → (a b : ℕ) → a < length texts → b < length texts → get_or texts a [] ≡ get_or texts b [] → a ≡ b
text_at-one texts differ a b l m same =
    ⊎_elim
    (λ lt. absurd (differ a b [] lt m same))
    (λ ge. ⊎_elim
    (λ gt. absurd (differ b a [] gt l (sym same)))
    (λ le. omega arith)
    (cases_lt b a))
    (cases_lt a b)

-- ---- a text that is put in twice

-- a text that is there is not put in again
pub with_text-there : (texts : List (List ℕ)) (text : List ℕ) (n : ℕ) → slice_get texts n ≡ Some text → with_text texts text ≡ texts
with_text-there texts text n at =
    ap (λ b. if b then texts else texts ++ text ∷ []) (any_passes_from_place (bytes_eq text) texts n text at (bytes_eq-same text text refl))

-- the second time it has the number of the first, and the store stays
pub Interns-again : (old mid new : List (List ℕ)) (text : List ℕ) (m n : ℕ) → Interns old text m mid → Interns mid text n new → (n ≡ m) × (new ≡ mid)
Interns-again old mid new text m n first second =
    let same : new ≡ mid = second.texts ∙ with_text-there mid text m first.at in
    let at : slice_get mid n ≡ Some text = ap (λ l. slice_get l n) (sym same) ∙ second.at in
    let one = get_or_from_slice_get mid n text [] at ∙ sym (get_or_from_slice_get mid m text [] first.at) in
    (text_at-one mid first.differ n m (slice_get_within mid n text at) (slice_get_within mid m text first.at) one, same)

-- to keep a text is to grow
pub Grows-Interns : (old new : List (List ℕ)) (text : List ℕ) (n : ℕ) → Interns old text n new → Grows old new
Grows-Interns old new text n i = let g = Grows-with_text old text in record { rest = g.rest; is = i.texts ∙ g.is }

-- the number that is given is one of the store
pub within-Interns : (old new : List (List ℕ)) (text : List ℕ) (n : ℕ) → Interns old text n new → n < length new
within-Interns old new text n i = slice_get_within new n text i.at

-- and has the text
pub text_at-Interns : (old new : List (List ℕ)) (text : List ℕ) (id : TermId) → Interns old text id.index new → text_at new id ≡ text
text_at-Interns old new text id i = get_or_from_slice_get new id.index text [] i.at

-- two numbers with one text are one
pub ids-one : (texts : List (List ℕ)) → AllDiffer texts → (a b : TermId) → a.index < length texts → b.index < length texts → text_at texts a ≡ text_at texts b → a ≡ b
ids-one texts differ a b l m same = let e = text_at-one texts differ a.index b.index l m same in λ i. record { index = e i }

-- what callers of `intern` need of the numbers that they hold
pub ruleset store_lemmas = (Grows-refl, Grows-Interns, within-Interns, text_at-Interns, text_at-Grows)

-- ---- the keys of the set, seen as texts

module _ {K : Type 0} (f : K → List ℕ) where
  -- keys are compared by their texts
  abbrev pub same_key : K → K → Bool
  same_key a b = bytes_eq (f a) (f b)

  position_or_len-texts : (p : List ℕ → Bool) (ks : List K) → position_or_len p (map f ks) ≡ position_or_len (λ k. p (f k)) ks
  position_or_len-texts p [] = refl
  position_or_len-texts p (k ∷ ks) = ap (λ n. cond (not (p (f k))) (1 + n) 0) (position_or_len-texts p ks)

  position-texts : (p : List ℕ → Bool) (ks : List K) → position p (map f ks) ≡ position (λ k. p (f k)) ks
  position-texts p ks =
      let at = position_or_len-texts p ks in
      let long = length-map ks f in
      λ j. cond (ltb (at j) (long j)) (Some (at j)) None

  -- the text of a key that is there
  pub Interns-found : (ks : List K) (text : List ℕ) (n : ℕ) → AllDiffer (map f ks) → position (λ k. bytes_eq text (f k)) ks ≡ Some n → Interns (map f ks) text n (map f ks)
  Interns-found ks text n differ found =
      let h = position-Some (bytes_eq text) (map f ks) n [] (position-texts (bytes_eq text) ks ∙ found) in
      let at = slice_get-get_or (map f ks) n [] h.0 ∙ ap Some (sym ((bytes_eq-Decides text _).0 h.1)) in
      record { at = at; texts = sym (with_text-there (map f ks) text n at); differ = differ }

  -- the texts of the keys after one more
  pub texts-insert_key : (ks : List K) (k : K) → map f (insert_key same_key ks k) ≡ with_text (map f ks) (f k)
  texts-insert_key ks k = by (list_any (same_key k) ks) refl
    where
      any : list_any (bytes_eq (f k)) (map f ks) ≡ list_any (same_key k) ks
      any = list_any-map (bytes_eq (f k)) f ks

      by : (b : Bool) → list_any (same_key k) ks ≡ b → map f (insert_key same_key ks k) ≡ with_text (map f ks) (f k)
      by true e = ap (λ c. map f (if c then ks else ks ++ k ∷ [])) e ∙ sym (ap (λ c. if c then map f ks else map f ks ++ f k ∷ []) (any ∙ e))
      by false e = ap (λ c. map f (if c then ks else ks ++ k ∷ [])) e ∙ map-append f ks (k ∷ []) ∙ sym (ap (λ c. if c then map f ks else map f ks ++ f k ∷ []) (any ∙ e))

  apart : (k : K) (ks : List K) → AllByRecursion (λ y. same_key k y ≡ false) ks → AllByRecursion (λ t. bytes_eq (f k) t ≡ false) (map f ks)
  apart k [] h = tt
  apart k (y ∷ ys) h = (h.0, apart k ys h.1)

  distinct : (ks : List K) → IsDistinct same_key ks → IsDistinct bytes_eq (map f ks)
  unfolding IsDistinct
  distinct [] d = tt
  distinct (k ∷ ks) d = (apart k ks d.0, distinct ks d.1)

  -- where no two keys are the same, no two texts are
  pub texts-differ : (ks : List K) → IsDistinct same_key ks → AllDiffer (map f ks)
  texts-differ ks d = AllPairs-from_IsDistinct bytes_eq-Decides (map f ks) (distinct ks d)

  -- a key that was put in
  pub Interns-kept : (ks new : List K) (k : K) (n : ℕ) → new ≡ insert_key same_key ks k → (stored : K) × (slice_get new n ≡ Some stored) × (same_key k stored ≡ true) → IsDistinct same_key new → Interns (map f ks) (f k) n (map f new)
  Interns-kept ks new k n is s d = record {
    at = slice_get-map f new n ∙ ap (option_map f) s.1 ∙ ap Some (sym ((bytes_eq-Decides (f k) (f s.0)).0 s.2));
    texts = ap (map f) is ∙ texts-insert_key ks k;
    differ = texts-differ new d;
  }

  length-insert_key : (ks : List K) (k : K) → length (insert_key same_key ks k) ≤ length ks + 1
  length-insert_key ks k = by (list_any (same_key k) ks)
    where
      by : (b : Bool) → length (if b then ks else ks ++ k ∷ []) ≤ length ks + 1
      by true = omega arith
      by false = omega (arith, length-append ks (k ∷ []))

  -- where a number was left for it, they are a store
  pub IsStore-kept : (ks new : List K) (k : K) → new ≡ insert_key same_key ks k → IsDistinct same_key new → length ks < 4294967295 → IsStore (map f new)
  IsStore-kept ks new k is d room = record {
    differ = texts-differ new d;
    few = omega (arith, length-map new f, ap length is, length-insert_key ks k);
  }
