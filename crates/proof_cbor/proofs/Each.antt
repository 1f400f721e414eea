-- One step of a loop over what is of one kind.
use Rattle.std.proofs.Common.{◌≡◌, ℕ, ◌+◌, ◌<◌, ◌≤◌, List, [], ◌∷◌, ◌++◌, length, get_or, drop, Option, Some, None, Result, Ok, Err, refl, sym, ap, ◌∙◌, append_assoc, arith, Bool, true, false, cond, eqb, subst}
use Rattle.std.specs.Prelude.{◌&&◌, is_some}
use Rattle.std.specs.Option.{option_map, option_and_then}
use Rattle.std.specs.List.{list_all}
use Rattle.std.proofs.lemmas.List.{append-nil, nil_from_length, length-drop}
use Rattle.proof_cbor.specs.declared.fault.Part.{Part}
use Rattle.proof_cbor.specs.declared.fault.ValueFault.{ValueFault}
use Rattle.proof_cbor.specs.declared.fault.ValueFault.TheVariants as fault
use Rattle.cbor_core.specs.Internal.Results.{◌>>=◌, Fails}
use Rattle.cbor_core.proofs.Outcomes.{fails_on}
use Rattle.proof_cbor.specs.Internal.Reading.{is_memory, each_is, one_of, ones_from, ones_of}
use Rattle.base_types.proofs.Lists.{drop-next}

joined : {Y : Type 0} (done : List Y) (y : Y) (o : Option (List Y)) → option_map (λ rest. done ++ rest) (option_map (λ ys. y ∷ ys) o) ≡ option_map (λ rest. (done ++ y ∷ []) ++ rest) o
joined done y None = refl
joined done y (Some ys) = ap Some (sym (append_assoc done (y ∷ []) ys))

-- at each item: it is of the kind, or it is not
pub each_more : {X Y : Type 0} (kind : X → Option Y) (xs : List X) (i : ℕ) (x : X) (y : Y) (done : List Y) (whole : Option (List Y)) → i < length xs → x ≡ get_or xs i x → kind x ≡ Some y
    → option_map (λ rest. done ++ rest) (each_is kind (drop i xs)) ≡ whole → option_map (λ rest. (done ++ y ∷ []) ++ rest) (each_is kind (drop (i + 1) xs)) ≡ whole
unfolding each_is
each_more kind xs i x y done whole lt is e so_far =
    let one : option_map (λ rest. done ++ rest) (each_is kind (drop i xs)) ≡ option_map (λ rest. (done ++ y ∷ []) ++ rest) (each_is kind (drop (i + 1) xs)) = rw (drop-next xs i x lt is, e) (joined done y (each_is kind (drop (i + 1) xs))) in
    sym one ∙ so_far

-- where the next item is not of the kind, the whole is not of it
pub each_stops : {X Y : Type 0} (kind : X → Option Y) (xs : List X) (i : ℕ) (x : X) (done : List Y) (whole : Option (List Y)) → i < length xs → x ≡ get_or xs i x → kind x ≡ None
    → option_map (λ rest. done ++ rest) (each_is kind (drop i xs)) ≡ whole → whole ≡ None
unfolding each_is
each_stops kind xs i x done whole lt is e so_far =
    let one : option_map (λ rest. done ++ rest) (each_is kind (drop i xs)) ≡ None = rw (drop-next xs i x lt is, e) refl in
    sym so_far ∙ one

-- past the last item, the whole is what was gathered
pub each_end : {X Y : Type 0} (kind : X → Option Y) (xs : List X) (i : ℕ) (done : List Y) (whole : Option (List Y)) → length xs ≤ i
    → option_map (λ rest. done ++ rest) (each_is kind (drop i xs)) ≡ whole → whole ≡ Some done
unfolding each_is
each_end kind xs i done whole le so_far =
    let none : drop i xs ≡ [] = nil_from_length (drop i xs) (omega (arith, length-drop i xs)) in
    let one : option_map (λ rest. done ++ rest) (each_is kind (drop i xs)) ≡ Some done = rw (none, append-nil done) refl in
    sym so_far ∙ one

-- ---- whether each is of the kind

still : {Y : Type 0} (y : Y) (o : Option (List Y)) → is_some (option_map (λ ys. y ∷ ys) o) ≡ is_some o
still y None = refl
still y (Some ys) = refl

-- where the next item is of the kind, those behind it decide whether all are
pub all_more : {X Y : Type 0} (kind : X → Option Y) (xs : List X) (i : ℕ) (x : X) (y : Y) (whole : Bool) → i < length xs → x ≡ get_or xs i x → kind x ≡ Some y → is_some (each_is kind (drop i xs)) ≡ whole → is_some (each_is kind (drop (i + 1) xs)) ≡ whole
unfolding each_is
all_more kind xs i x y whole lt is e so_far =
    let one : is_some (each_is kind (drop i xs)) ≡ is_some (each_is kind (drop (i + 1) xs)) = rw (drop-next xs i x lt is, e) (still y (each_is kind (drop (i + 1) xs))) in
    sym one ∙ so_far

-- where the next item is not of the kind, not all are
pub all_stops : {X Y : Type 0} (kind : X → Option Y) (xs : List X) (i : ℕ) (x : X) (whole : Bool) → i < length xs → x ≡ get_or xs i x → kind x ≡ None → is_some (each_is kind (drop i xs)) ≡ whole → false ≡ whole
unfolding each_is
all_stops kind xs i x whole lt is e so_far =
    let one : is_some (each_is kind (drop i xs)) ≡ false = rw (drop-next xs i x lt is, e) refl in
    sym one ∙ so_far

-- past the last item, all are of the kind
pub all_end : {X Y : Type 0} (kind : X → Option Y) (xs : List X) (i : ℕ) (whole : Bool) → length xs ≤ i → is_some (each_is kind (drop i xs)) ≡ whole → true ≡ whole
unfolding each_is
all_end kind xs i whole le so_far =
    let none : drop i xs ≡ [] = nil_from_length (drop i xs) (omega (arith, length-drop i xs)) in
    let one : is_some (each_is kind (drop i xs)) ≡ true = rw none refl in
    sym one ∙ so_far

-- ---- of one kind and one size

cond_bind : {A B : Type 0} (t : Bool) (x : A) (d : ValueFault) (g : A → Result B ValueFault) → (cond t (Ok x) (Err d) >>= g) ≡ cond t (g x) (Err d)
cond_bind true x d g = refl
cond_bind false x d g = refl

known : {A : Type 0} (o : Option A) → true ≡ is_some o → (x : A) × (o ≡ Some x)
known None e = absurd cc
known (Some x) e = (x, refl)

unknown : {A : Type 0} (o : Option A) → false ≡ is_some o → o ≡ None
unknown None e = refl
unknown (Some x) e = absurd cc

-- the first of those that are all of one kind, and the others
pub parts : {A : Type 0} (o : Option A) (p : Option (List A)) (cs : List A) → option_and_then (λ y. option_map (λ ys. y ∷ ys) p) o ≡ Some cs → (c : A) × (rest : List A) × (o ≡ Some c) × (p ≡ Some rest) × (c ∷ rest ≡ cs)
parts None p cs e = absurd cc
parts (Some c) None cs e = absurd cc
parts (Some c) (Some rest) cs e = (c, rest, refl, refl, cc)

module _ {X Y : Type 0} (kind : X → Option Y) (size : Y → ℕ) (at : Part) (n : ℕ) where
  pub ones_more : (xs : List X) (i : ℕ) (done : List Y) (whole : Result (List Y) ValueFault) (x : X) (c : Y) → i < length xs → x ≡ get_or xs i x → one_of kind size at n x ≡ Ok c → ones_from kind size at n done (drop i xs) ≡ whole → ones_from kind size at n (done ++ c ∷ []) (drop (i + 1) xs) ≡ whole
  unfolding ones_from
  ones_more xs i done whole x c lt is h so_far =
      let one : ones_from kind size at n done (drop i xs) ≡ ones_from kind size at n (done ++ c ∷ []) (drop (i + 1) xs) = rw (drop-next xs i x lt is, h) refl in
      sym one ∙ so_far

  pub ones_fail : (xs : List X) (i : ℕ) (done : List Y) (whole : Result (List Y) ValueFault) (e : ValueFault) (x : X) → i < length xs → x ≡ get_or xs i x → Fails is_memory e (one_of kind size at n x) → ones_from kind size at n done (drop i xs) ≡ whole → Fails is_memory e whole
  unfolding ones_from
  ones_fail xs i done whole e x lt is h so_far =
      let one : ones_from kind size at n done (drop i xs) ≡ (one_of kind size at n x >>= λ c. ones_from kind size at n (done ++ c ∷ []) (drop (i + 1) xs)) = rw (drop-next xs i x lt is) refl in
      subst (λ (r : Result (List Y) ValueFault). Fails is_memory e r) (sym one ∙ so_far) (fails_on is_memory e (one_of kind size at n x) (λ c. ones_from kind size at n (done ++ c ∷ []) (drop (i + 1) xs)) h)

  pub ones_end : (xs : List X) (i : ℕ) (done : List Y) (whole : Result (List Y) ValueFault) → length xs ≤ i → ones_from kind size at n done (drop i xs) ≡ whole → whole ≡ Ok done
  unfolding ones_from
  ones_end xs i done whole le so_far =
      let none : drop i xs ≡ [] = nil_from_length (drop i xs) (omega (arith, length-drop i xs)) in
      let one : ones_from kind size at n done (drop i xs) ≡ Ok done = rw none refl in
      sym so_far ∙ one

  -- where all are of the kind, the sizes alone decide
  behind_one : (done : List Y) (c : Y) (cs : List Y) (t b : Bool) → cond t (cond b (Ok ((done ++ c ∷ []) ++ cs)) (Err (fault.Length at))) (Err (fault.Length at)) ≡ cond (t && b) (Ok (done ++ c ∷ cs)) (Err (fault.Length at))
  behind_one done c cs false b = refl
  behind_one done c cs true false = refl
  behind_one done c cs true true = ap (λ (z : List Y). Ok z) (append_assoc done (c ∷ []) cs)

  one_step : (i : X) (is : List X) (done : List Y) (c : Y) → kind i ≡ Some c → ones_from kind size at n done (i ∷ is) ≡ cond (eqb (size c) n) (ones_from kind size at n (done ++ c ∷ []) is) (Err (fault.Length at))
  unfolding ones_from
  one_step i is done c e = rw e (cond_bind (eqb (size c) n) c (fault.Length at) (λ y. ones_from kind size at n (done ++ y ∷ []) is))

  ones_step : (i : X) (is : List X) (done cs : List Y) (c : Y) (rest : List Y) → kind i ≡ Some c → c ∷ rest ≡ cs
      → ones_from kind size at n (done ++ c ∷ []) is ≡ cond (list_all (λ d. eqb (size d) n) rest) (Ok ((done ++ c ∷ []) ++ rest)) (Err (fault.Length at))
      → ones_from kind size at n done (i ∷ is) ≡ cond (list_all (λ d. eqb (size d) n) cs) (Ok (done ++ cs)) (Err (fault.Length at))
  ones_step i is done cs c rest k same more =
      subst (λ (z : List Y). ones_from kind size at n done (i ∷ is) ≡ cond (list_all (λ d. eqb (size d) n) z) (Ok (done ++ z)) (Err (fault.Length at))) same
      (one_step i is done c k ∙ rw more (behind_one done c rest (eqb (size c) n) (list_all (λ d. eqb (size d) n) rest)))

  ones_law : (xs : List X) (done cs : List Y) → each_is kind xs ≡ Some cs → ones_from kind size at n done xs ≡ cond (list_all (λ c. eqb (size c) n) cs) (Ok (done ++ cs)) (Err (fault.Length at))
  unfolding each_is ones_from
  ones_law [] done cs e =
      let none : [] ≡ cs = cc in
      subst (λ (z : List Y). ones_from kind size at n done [] ≡ cond (list_all (λ c. eqb (size c) n) z) (Ok (done ++ z)) (Err (fault.Length at))) none (ap (λ (z : List Y). Ok z) (sym (append-nil done)))
  ones_law (i ∷ is) done cs e =
      let p = parts (kind i) (each_is kind is) cs e in
      ones_step i is done cs p.0 p.1 p.2 p.4 (ones_law is (done ++ p.0 ∷ []) p.1 p.3)

  pub ones_known : (xs : List X) (b : Bool) → b ≡ is_some (each_is kind xs) → b ≡ true → ones_of kind size at n xs ≡ ones_from kind size at n [] xs
  ones_known xs b is e =
      let k = known (each_is kind xs) (sym e ∙ is) in
      rw k.1 (sym (ones_law xs [] k.0 k.1))

-- where not all are found to be of the kind, there is no list of what they are
pub each_unknown : {X Y : Type 0} (kind : X → Option Y) (xs : List X) (b : Bool) → b ≡ is_some (each_is kind xs) → b ≡ false → each_is kind xs ≡ None
each_unknown kind xs b is e = unknown (each_is kind xs) (sym e ∙ is)

pub ruleset one_steps = (ones_known, each_unknown)
