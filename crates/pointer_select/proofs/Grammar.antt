-- The grammar of pointers: the first byte where a text leaves it, and the tokens that a text spells.
use Rattle.std.proofs.Common.{◌≡◌, ◌≤◌, ◌<◌, ◌+◌, ◌-◌, ℕ, zero, suc, List, [], ◌∷◌, ◌++◌, length, take, drop, Bool, true, false, not, ◌==◌, ◌&&◌, if◌then◌else◌, Option, Some, None, Result, Ok, Err, refl, sym, ap, ◌∙◌, subst, append_assoc, append-nil, arith, inl, inr}
use Rattle.std.specs.List.{flat_map}
use Rattle.std.proofs.lemmas.Bool.{cases_Bool, true≢false}
use Rattle.std.proofs.lemmas.Bool.Decides.{nat_tests}
use Rattle.std.proofs.lemmas.List.{take_all, length-drop}
use Rattle.std.proofs.lemmas.List.Concat.{flat_map-append}
use Rattle.std.proofs.lemmas.Option.{same_Some, none-some}
use Rattle.json_tree.specs.Places.{escaped}
use Rattle.pointer_select.specs.declared.fault.PointerFault.{PointerFault}
use Rattle.pointer_select.specs.declared.fault.PointerFault.TheVariants.{BadPointer, Memory}
use Rattle.pointer_select.specs.Pointers.{pointer_with, ends_escape, is_bad_escape, begins_otherwise, LeavesAt, LeavesFirstAt, start, escape, ReadsPointer}
use Rattle.pointer_select.specs.Internal.Reading.{first_bad_escape, first_fault, tokens_from}

equal : (b c : ℕ) → (b == c) ≡ true → b ≡ c
equal b c h = grind (arith, nat_tests)

-- ---- the scan for a bad escape

-- no escape in the text is bad
abbrev pub HasGoodEscapes : List ℕ → Type 0
HasGoodEscapes text = (k : ℕ) → is_bad_escape (drop k text) ≡ false

pub record FirstBad (text : List ℕ) (k : ℕ) : Type 0 where
  pub bad : is_bad_escape (drop k text) ≡ true
  pub least : (j : ℕ) → is_bad_escape (drop j text) ≡ true → k ≤ j

scan_step : (n : ℕ) (c : ℕ) (cs : List ℕ) → is_bad_escape (c ∷ cs) ≡ false → first_bad_escape n (c ∷ cs) ≡ first_bad_escape (n + 1) cs
scan_step n c cs h = ap (λ (b : Bool). if b then Some n else first_bad_escape (n + 1) cs) h

scan_here : (n : ℕ) (c : ℕ) (cs : List ℕ) → is_bad_escape (c ∷ cs) ≡ true → first_bad_escape n (c ∷ cs) ≡ Some n
scan_here n c cs h = ap (λ (b : Bool). if b then Some n else first_bad_escape (n + 1) cs) h

-- where the scan finds one it is the first
scan_finds : (n : ℕ) (text : List ℕ) (at : ℕ) → first_bad_escape n text ≡ Some at → (k : ℕ) × (at ≡ n + k) × FirstBad text k
scan_finds n [] at h = absurd (cc)
scan_finds n (c ∷ cs) at h = elim (cases_Bool (is_bad_escape (c ∷ cs))) [
  | inl bad ↦
      let is : n ≡ at = same_Some n at (sym (scan_here n c cs bad) ∙ h) in
      (0, omega arith, record { bad = bad; least = λ j b. omega arith })
  | inr good ↦
      let more = scan_finds (n + 1) cs at (sym (scan_step n c cs good) ∙ h) in
      let e : at ≡ (n + 1) + more.0 = more.1 in
      (suc more.0, omega arith, record { bad = more.2.bad; least = least_there c cs more.0 good more.2 })
]
  where
    least_there : (c : ℕ) (cs : List ℕ) (k : ℕ) → is_bad_escape (c ∷ cs) ≡ false → FirstBad cs k → (j : ℕ) → is_bad_escape (drop j (c ∷ cs)) ≡ true → suc k ≤ j
    least_there c cs k good f zero b = absurd (true≢false (sym b ∙ good))
    least_there c cs k good f (suc j) b = let low : k ≤ j = f.least j b in omega arith

nothing_bad : (k : ℕ) → is_bad_escape (drop k []) ≡ false
nothing_bad zero = refl
nothing_bad (suc k) = refl

-- where it finds none there is none
scan_none : (n : ℕ) (text : List ℕ) → first_bad_escape n text ≡ None → HasGoodEscapes text
scan_none n [] h k = nothing_bad k
scan_none n (c ∷ cs) h k = elim (cases_Bool (is_bad_escape (c ∷ cs))) [
  | inl bad ↦ absurd (none-some n (sym h ∙ scan_here n c cs bad))
  | inr good ↦ at_all k good (scan_none (n + 1) cs (sym (scan_step n c cs good) ∙ h))
]
  where
    at_all : (k : ℕ) → is_bad_escape (c ∷ cs) ≡ false → HasGoodEscapes cs → is_bad_escape (drop k (c ∷ cs)) ≡ false
    at_all zero good rest = good
    at_all (suc k) good rest = rest k

-- ---- the code's scan

further : (text : List ℕ) (k n : ℕ) → k < length text → is_bad_escape (drop k text) ≡ false → first_bad_escape n (drop k text) ≡ first_bad_escape (n + 1) (drop (suc k) text)
further [] k n within good = absurd (omega arith)
further (c ∷ cs) zero n within good = scan_step n c cs good
further (c ∷ cs) (suc k) n within good = further cs k n (omega arith) good

-- one byte further
pub scan_more : (text : List ℕ) (k : ℕ) (o : Option ℕ) → k < length text → is_bad_escape (drop k text) ≡ false → o ≡ first_bad_escape k (drop k text) → o ≡ first_bad_escape (k + 1) (drop (k + 1) text)
scan_more text k o within good is =
    let next : suc k ≡ k + 1 = omega arith in
    is ∙ further text k k within good ∙ ap (λ (m : ℕ). first_bad_escape (k + 1) (drop m text)) next

-- the slice from a byte on is what is left from there
pub slice_left : (text : List ℕ) (k : ℕ) → k < length text → take (length text - k) (drop k text) ≡ drop k text
slice_left text k within = take_all (length text - k) (drop k text) (omega (arith, length-drop k text))

-- ---- the first fault

-- the byte that is found is the first at which the text leaves the grammar
pub fault_first : (text : List ℕ) (at : ℕ) → first_fault text ≡ Some at → LeavesFirstAt text at
fault_first text at h = elim (cases_Bool (begins_otherwise text)) [
  | inl other ↦
      let is : 0 ≡ at = same_Some 0 at (sym (ap (λ (b : Bool). if b then Some 0 else first_bad_escape 0 text) other) ∙ h) in
      record { leaves = start (sym is) other; first = λ k leaves. omega arith }
  | inr slash ↦
      let found = scan_finds 0 text at (sym (ap (λ (b : Bool). if b then Some 0 else first_bad_escape 0 text) slash) ∙ h) in
      let same : at ≡ found.0 = omega (arith, found.1) in
      record { leaves = escape (ap (λ (k : ℕ). is_bad_escape (drop k text)) same ∙ found.2.bad); first = λ k leaves. subst (λ (m : ℕ). m ≤ k) (sym same) (not_before text found.0 slash found.2 k leaves) }
]
  where
    not_before : (text : List ℕ) (m : ℕ) → begins_otherwise text ≡ false → FirstBad text m → (k : ℕ) → LeavesAt text k → m ≤ k
    not_before text m slash f k (start zero' other) = absurd (true≢false (sym other ∙ slash))
    not_before text m slash f k (escape bad) = f.least k bad

pub record IsGood (text : List ℕ) : Type 0 where
  pub begins : begins_otherwise text ≡ false
  pub escapes : HasGoodEscapes text

-- where none is found the text stays in the grammar
pub no_fault : (text : List ℕ) → first_fault text ≡ None → IsGood text
no_fault text h = elim (cases_Bool (begins_otherwise text)) [
  | inl other ↦ absurd (none-some 0 (sym h ∙ ap (λ (b : Bool). if b then Some 0 else first_bad_escape 0 text) other))
  | inr slash ↦ record { begins = slash; escapes = scan_none 0 text (sym (ap (λ (b : Bool). if b then Some 0 else first_bad_escape 0 text) slash) ∙ h) }
]

good_leaves_nowhere : (text : List ℕ) → IsGood text → (k : ℕ) → LeavesAt text k → ⊥
good_leaves_nowhere text g k (start zero' other) = true≢false (sym other ∙ g.begins)
good_leaves_nowhere text g k (escape bad) = true≢false (sym bad ∙ g.escapes k)

-- ---- what is spelled

-- the escapes of a token
abbrev spelling : List ℕ → List ℕ
spelling token = flat_map escaped token

one_more : (token : List ℕ) (c : ℕ) (rest : List ℕ) → spelling (token ++ c ∷ []) ++ rest ≡ spelling token ++ (escaped c ++ rest)
one_more token c rest =
    ap (λ s. s ++ rest) (flat_map-append escaped token (c ∷ []) ∙ ap (λ s. spelling token ++ s) (append-nil (escaped c)))
    ∙ append_assoc (spelling token) (escaped c) rest

good_rest : (c : ℕ) (cs : List ℕ) → HasGoodEscapes (c ∷ cs) → HasGoodEscapes cs
good_rest c cs g k = g (suc k)

-- the text of what is read of a rest, and of a rest after `~`
abbrev SpellsPlain : List ℕ → Type 0
SpellsPlain rest = (token : List ℕ) → HasGoodEscapes rest → 47 ∷ (spelling token ++ rest) ≡ pointer_with (tokens_from false token rest)

abbrev SpellsEscape : List ℕ → Type 0
SpellsEscape rest = (token : List ℕ) → HasGoodEscapes (126 ∷ rest) → 47 ∷ (spelling token ++ 126 ∷ rest) ≡ pointer_with (tokens_from true token rest)

plain_by : (c : ℕ) (cs : List ℕ) → SpellsPlain cs → SpellsEscape cs → (token : List ℕ) → HasGoodEscapes (c ∷ cs) → (a b : Bool) → (c == 126) ≡ a → (c == 47) ≡ b → 47 ∷ (spelling token ++ c ∷ cs) ≡ pointer_with (if a then tokens_from true token cs else (if b then token ∷ tokens_from false [] cs else tokens_from false (token ++ c ∷ []) cs))
plain_by c cs plain escaping token g true b t s =
    let is : c ≡ 126 = equal c 126 t in
    ap (λ (d : ℕ). 47 ∷ (spelling token ++ d ∷ cs)) is ∙ escaping token (subst (λ (d : ℕ). HasGoodEscapes (d ∷ cs)) is g)
plain_by c cs plain escaping token g false true t s =
    ap (λ (d : ℕ). 47 ∷ (spelling token ++ d ∷ cs)) (equal c 47 s) ∙ ap (λ p. 47 ∷ (spelling token ++ p)) (plain [] (good_rest c cs g))
plain_by c cs plain escaping token g false false t s =
    let itself : escaped c ≡ c ∷ [] = rw (t, s) refl in
    ap (λ p. 47 ∷ p) (ap (λ e. spelling token ++ (e ++ cs)) (sym itself) ∙ sym (one_more token c cs)) ∙ plain (token ++ c ∷ []) (good_rest c cs g)

escape_by : (c : ℕ) (cs : List ℕ) → SpellsPlain cs → (token : List ℕ) → HasGoodEscapes (126 ∷ c ∷ cs) → (a b : Bool) → (c == 48) ≡ a → (c == 49) ≡ b → 47 ∷ (spelling token ++ 126 ∷ c ∷ cs) ≡ pointer_with (tokens_from false (token ++ (if a then 126 else (if b then 47 else c)) ∷ []) cs)
escape_by c cs plain token g true b z o =
    ap (λ (d : ℕ). 47 ∷ (spelling token ++ 126 ∷ d ∷ cs)) (equal c 48 z) ∙ ap (λ p. 47 ∷ p) (sym (one_more token 126 cs)) ∙ plain (token ++ 126 ∷ []) (λ k. g (suc (suc k)))
escape_by c cs plain token g false true z o =
    ap (λ (d : ℕ). 47 ∷ (spelling token ++ 126 ∷ d ∷ cs)) (equal c 49 o) ∙ ap (λ p. 47 ∷ p) (sym (one_more token 47 cs)) ∙ plain (token ++ 47 ∷ []) (λ k. g (suc (suc k)))
escape_by c cs plain token g false false z o =
    let bad : is_bad_escape (126 ∷ c ∷ cs) ≡ true = rw (z, o) refl in
    absurd (true≢false (sym bad ∙ g 0))

spells_rest : (rest : List ℕ) → SpellsPlain rest × SpellsEscape rest
spells_rest [] = (λ token g. refl, λ token g. absurd (true≢false (g 0)))
spells_rest (c ∷ cs) =
    let more = spells_rest cs in (
      λ token g. plain_by c cs more.0 more.1 token g (c == 126) (c == 47) refl refl,
      λ token g. escape_by c cs more.0 token g (c == 48) (c == 49) refl refl,
    )

-- a good text spells what is read of it
pub spells_tokens : (text rest : List ℕ) → first_fault text ≡ None → text ≡ 47 ∷ rest → text ≡ pointer_with (tokens_from false [] rest)
spells_tokens text rest none is = is ∙ (spells_rest rest).0 [] (good_rest 47 rest (subst HasGoodEscapes is (no_fault text none).escapes))

-- a good text that does not begin with `/` is empty
pub spells_nothing : (text : List ℕ) → first_fault text ≡ None → ((rest : List ℕ) → text ≡ 47 ∷ rest → ⊥) → text ≡ pointer_with []
spells_nothing [] none other = refl
spells_nothing (c ∷ cs) none other = elim (cases_Bool (c == 47)) [
  | inl slash ↦ absurd (other cs (ap (λ (d : ℕ). d ∷ cs) (equal c 47 slash)))
  | inr no_slash ↦ absurd (true≢false (sym (ap not no_slash) ∙ (no_fault (c ∷ cs) none).begins))
]

-- ---- a spelled text is good, and spells one list of tokens

good_token : (token rest : List ℕ) → HasGoodEscapes rest → HasGoodEscapes (spelling token ++ rest)
good_token [] rest g = g
good_token (c ∷ cs) rest g = subst HasGoodEscapes (sym (append_assoc (escaped c) (spelling cs) rest)) (by (c == 126) (c == 47) refl refl (good_token cs rest g))
  where
    then_good : (d e : ℕ) (more : List ℕ) → is_bad_escape (d ∷ e ∷ more) ≡ false → is_bad_escape (e ∷ more) ≡ false → HasGoodEscapes more → HasGoodEscapes (d ∷ e ∷ more)
    then_good d e more a b g zero = a
    then_good d e more a b g (suc zero) = b
    then_good d e more a b g (suc (suc k)) = g k

    one_good : (d : ℕ) (more : List ℕ) → is_bad_escape (d ∷ more) ≡ false → HasGoodEscapes more → HasGoodEscapes (d ∷ more)
    one_good d more a g zero = a
    one_good d more a g (suc k) = g k

    by : (a b : Bool) → (c == 126) ≡ a → (c == 47) ≡ b → HasGoodEscapes (spelling cs ++ rest) → HasGoodEscapes ((if a then 126 ∷ 48 ∷ [] else (if b then 126 ∷ 49 ∷ [] else c ∷ [])) ++ (spelling cs ++ rest))
    by true b t s more = then_good 126 48 (spelling cs ++ rest) refl refl more
    by false true t s more = then_good 126 49 (spelling cs ++ rest) refl refl more
    by false false t s more = one_good c (spelling cs ++ rest) (ap (λ (b : Bool). b && not (ends_escape (spelling cs ++ rest))) t) more

good_pointer : (tokens : List (List ℕ)) → HasGoodEscapes (pointer_with tokens)
good_pointer [] k = nothing_bad k
good_pointer (token ∷ tokens) zero = refl
good_pointer (token ∷ tokens) (suc k) = good_token token (pointer_with tokens) (good_pointer tokens) k

good_begins : (tokens : List (List ℕ)) → begins_otherwise (pointer_with tokens) ≡ false
good_begins [] = refl
good_begins (token ∷ tokens) = refl

-- the text of tokens leaves the grammar nowhere
pub leaves_nowhere : (tokens : List (List ℕ)) (k : ℕ) → LeavesAt (pointer_with tokens) k → ⊥
leaves_nowhere tokens = good_leaves_nowhere (pointer_with tokens) record { begins = good_begins tokens; escapes = good_pointer tokens }

reads_escaped : (c : ℕ) (token rest : List ℕ) → tokens_from false token (escaped c ++ rest) ≡ tokens_from false (token ++ c ∷ []) rest
reads_escaped c token rest = by (c == 126) (c == 47) refl refl
  where
    by : (a b : Bool) → (c == 126) ≡ a → (c == 47) ≡ b → tokens_from false token ((if a then 126 ∷ 48 ∷ [] else (if b then 126 ∷ 49 ∷ [] else c ∷ [])) ++ rest) ≡ tokens_from false (token ++ c ∷ []) rest
    by true b t s = ap (λ (d : ℕ). tokens_from false (token ++ d ∷ []) rest) (sym (equal c 126 t))
    by false true t s = ap (λ (d : ℕ). tokens_from false (token ++ d ∷ []) rest) (sym (equal c 47 s))
    by false false t s = rw (t, s) refl

reads_token : (key token rest : List ℕ) → tokens_from false token (spelling key ++ rest) ≡ tokens_from false (token ++ key) rest
reads_token [] token rest = ap (λ t. tokens_from false t rest) (sym (append-nil token))
reads_token (c ∷ cs) token rest =
    ap (tokens_from false token) (append_assoc (escaped c) (spelling cs) rest)
    ∙ reads_escaped c token (spelling cs ++ rest) ∙ reads_token cs (token ++ c ∷ []) rest
    ∙ ap (λ t. tokens_from false t rest) (append_assoc token (c ∷ []) cs)

reads_pointer : (token : List ℕ) (tokens : List (List ℕ)) → tokens_from false token (pointer_with tokens) ≡ token ∷ tokens
reads_pointer token [] = refl
reads_pointer token (key ∷ keys) = ap (λ ts. token ∷ ts) (reads_token key [] (pointer_with keys) ∙ reads_pointer key keys)

rest_of : (x y : List ℕ) (xs ys : List (List ℕ)) → x ∷ xs ≡ y ∷ ys → xs ≡ ys
rest_of x y xs ys e = cc

one_list : (ts us : List (List ℕ)) → pointer_with ts ≡ pointer_with us → ts ≡ us
one_list ts us e = rest_of [] [] ts us (sym (reads_pointer [] ts) ∙ ap (tokens_from false []) e ∙ reads_pointer [] us)

one_byte : (text : List ℕ) (i j : ℕ) → LeavesFirstAt text i → LeavesFirstAt text j → i ≡ j
one_byte text i j a b =
    let low : i ≤ j = a.first j b.leaves in
    let high : j ≤ i = b.first i a.leaves in
    omega arith

-- a text has one outcome
pub one_outcome : (text : List ℕ) (r s : Result (List (List ℕ)) PointerFault) → ReadsPointer text r → ReadsPointer text s → (r ≡ Err Memory → ⊥) → (s ≡ Err Memory → ⊥) → r ≡ s
one_outcome text (Err Memory) s a b m n = absurd (m refl)
one_outcome text (Ok ts) (Err Memory) a b m n = absurd (n refl)
one_outcome text (Err (BadPointer i)) (Err Memory) a b m n = absurd (n refl)
one_outcome text (Ok ts) (Ok us) a b m n = ap Ok (one_list ts us (sym a ∙ b))
one_outcome text (Ok ts) (Err (BadPointer j)) a b m n = absurd (leaves_nowhere ts j (subst (λ t. LeavesAt t j) a b.leaves))
one_outcome text (Err (BadPointer i)) (Ok us) a b m n = absurd (leaves_nowhere us i (subst (λ t. LeavesAt t i) b a.leaves))
one_outcome text (Err (BadPointer i)) (Err (BadPointer j)) a b m n = ap (λ (k : ℕ). Err (BadPointer k)) (one_byte text i j a b)
