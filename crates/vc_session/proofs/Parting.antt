-- Requests by their members: what their parts are, and that a request has one reading.
use Rattle.std.proofs.Common.{◌≡◌, ℕ, Bool, true, false, ◌&&◌, List, [], ◌∷◌, map, get_or, All, Result, Ok, Err, IsErrAnd, IsErrOf, Option, Some, None, is_none, option_map, option_and_then, refl, sym, ap, ◌∙◌, subst, codes}
use Rattle.std.specs.Str.{bytes_eq}
use Rattle.std.proofs.lemmas.List.Elements.{Contains-get_or}
use Rattle.json_tree.specs.declared.tree.Tree.{Tree}
use Rattle.json_tree.specs.declared.tree.Tree.TheVariants as v
use Rattle.json_tree.specs.declared.tree.Member.{Member}
use Rattle.json_tree.specs.Places.{look, members_of}
use Rattle.json_tree.specs.Trees.{new_member}
use Rattle.json_tree.proofs.TreeLemmas.{members_of-Object, members_of-Some}
use Rattle.key_device.specs.declared.table.KeyEntry.{KeyEntry}
use Rattle.nquads.specs.Terms.{IsStatement, Statement}
use Rattle.nquads.specs.Spelling.{text_quad}
use Rattle.ld_rdf.specs.Flat.{IsFlat, IsFlatMeaning, Means, at_context}
use Rattle.ld_rdf.specs.Internal.Parts.{only_if}
use Rattle.json_tree.specs.Members.{without}
use Rattle.ld_rdf.specs.Reduced.{statements_request, with_context}
use Rattle.ld_rdf.proofs.OptionsAndLists.{provided-Some}
use Rattle.vc_session.specs.declared.requests.IssueRead.{IssueRead}
use Rattle.vc_session.specs.declared.tasks.VerifyTask.{VerifyTask}
use Rattle.vc_session.specs.Requests.{HasShape, IsFlatIssue, IsFlatVerify, IsIssue, IsKeyTable, IsVerify, IssueParts, VerifyParts, at, issue_object, proof_name, value_name, whole_document}
use Rattle.vc_session.specs.Internal.Tasks.{IsVerifyTask}
use Rattle.vc_session.specs.Internal.RequestMembers.{IsIssueRead, five_in, five_of, issue_names, lacks, method_in, proof_parts, text_under, three_in, three_of}
use Rattle.vc_session.proofs.Looks.{SameBeside, form_from, form_of, look_removed, look_without, method_from, shape_from, text_under-from, text_under-Some, without_none}
use Rattle.base_types.proofs.Lists.{same_some}
use Rattle.base_types.proofs.Orders.{bytes_eq-true}
use Rattle.base_types.proofs.Options.{and_then-Some, option_map-Some, is_none-true}

-- ---- the members

five : (a b c d e : Bool) → (a && b && c && d && e) ≡ true → (a ≡ true) × (b ≡ true) × (c ≡ true) × (d ≡ true) × (e ≡ true)
five true true true true true h = (refl, refl, refl, refl, refl)
five false b c d e h = absurd (cc)
five true false c d e h = absurd (cc)
five true true false d e h = absurd (cc)
five true true true false e h = absurd (cc)
five true true true true false h = absurd (cc)

three : (a b c : Bool) → (a && b && c) ≡ true → (a ≡ true) × (b ≡ true) × (c ≡ true)
three true true true h = (refl, refl, refl)
three false b c h = absurd (cc)
three true false c h = absurd (cc)
three true true false h = absurd (cc)

abbrev Five : Type 0
Five = Tree × Tree × Tree × Tree × Tree

abbrev Three : Type 0
Three = Tree × Tree × Tree

abbrev fives : Tree → Tree → Tree → Tree → Tree → Five
fives c d k m o = (c, d, k, m, o)

abbrev threes : Tree → Tree → Tree → Three
threes c d k = (c, d, k)

abbrev two_texts : List ℕ → List ℕ → List ℕ × List ℕ
two_texts x y = (x, y)

abbrev Four : Type 0
Four = Tree × List ℕ × List ℕ × List ℕ

abbrev fours : Tree → List ℕ → List ℕ → List ℕ → Four
fours x n y w = (x, n, y, w)

abbrev entries : Five → List (Member Tree)
entries p = new_member (codes "contexts") p.0 ∷ new_member (codes "document") p.1 ∷ new_member (codes "keys") p.2 ∷ new_member (codes "mandatory") p.3 ∷ new_member (codes "options") p.4 ∷ []

abbrev three_entries : Three → List (Member Tree)
three_entries p = new_member (codes "contexts") p.0 ∷ new_member (codes "document") p.1 ∷ new_member (codes "keys") p.2 ∷ []

five_in-Some : (ms : List (Member Tree)) (p : Five) → five_in ms ≡ Some p → ms ≡ entries p
five_in-Some [] p h = absurd (cc)
five_in-Some (c ∷ []) p h = absurd (cc)
five_in-Some (c ∷ (d ∷ [])) p h = absurd (cc)
five_in-Some (c ∷ (d ∷ (k ∷ []))) p h = absurd (cc)
five_in-Some (c ∷ (d ∷ (k ∷ (m ∷ [])))) p h = absurd (cc)
five_in-Some (c ∷ (d ∷ (k ∷ (m ∷ (o ∷ []))))) p h =
    let values : Five = (c.value, d.value, k.value, m.value, o.value) in
    let given = provided-Some (bytes_eq c.key (codes "contexts") && bytes_eq d.key (codes "document") && bytes_eq k.key (codes "keys") && bytes_eq m.key (codes "mandatory") && bytes_eq o.key (codes "options")) (Some values) p h in
    let g = five (bytes_eq c.key (codes "contexts")) (bytes_eq d.key (codes "document")) (bytes_eq k.key (codes "keys")) (bytes_eq m.key (codes "mandatory")) (bytes_eq o.key (codes "options")) given.0 in
    let a = bytes_eq-true c.key (codes "contexts") g.0 in
    let b = bytes_eq-true d.key (codes "document") g.1 in
    let e = bytes_eq-true k.key (codes "keys") g.2 in
    let f = bytes_eq-true m.key (codes "mandatory") g.3 in
    let i = bytes_eq-true o.key (codes "options") g.4 in
    let same : values ≡ p = some_same values p given.1 in
    let named : (c ∷ (d ∷ (k ∷ (m ∷ (o ∷ []))))) ≡ entries values = (λ j. new_member (a j) c.value ∷ new_member (b j) d.value ∷ new_member (e j) k.value ∷ new_member (f j) m.value ∷ new_member (i j) o.value ∷ []) in
    named ∙ ap entries same
  where
    some_same : {A : Type 0} (x y : A) → Some x ≡ Some y → x ≡ y
    some_same x y e = cc
five_in-Some (c ∷ (d ∷ (k ∷ (m ∷ (o ∷ (x ∷ xs)))))) p h = absurd (cc)

three_in-Some : (ms : List (Member Tree)) (p : Three) → three_in ms ≡ Some p → ms ≡ three_entries p
three_in-Some [] p h = absurd (cc)
three_in-Some (c ∷ []) p h = absurd (cc)
three_in-Some (c ∷ (d ∷ [])) p h = absurd (cc)
three_in-Some (c ∷ (d ∷ (k ∷ []))) p h =
    let values : Three = (c.value, d.value, k.value) in
    let given = provided-Some (bytes_eq c.key (codes "contexts") && bytes_eq d.key (codes "document") && bytes_eq k.key (codes "keys")) (Some values) p h in
    let g = three (bytes_eq c.key (codes "contexts")) (bytes_eq d.key (codes "document")) (bytes_eq k.key (codes "keys")) given.0 in
    let a = bytes_eq-true c.key (codes "contexts") g.0 in
    let b = bytes_eq-true d.key (codes "document") g.1 in
    let e = bytes_eq-true k.key (codes "keys") g.2 in
    let same : values ≡ p = some_same values p given.1 in
    let named : (c ∷ (d ∷ (k ∷ []))) ≡ three_entries values = (λ j. new_member (a j) c.value ∷ new_member (b j) d.value ∷ new_member (e j) k.value ∷ []) in
    named ∙ ap three_entries same
  where
    some_same : {A : Type 0} (x y : A) → Some x ≡ Some y → x ≡ y
    some_same x y e = cc
three_in-Some (c ∷ (d ∷ (k ∷ (x ∷ xs)))) p h = absurd (cc)

-- an object of five members is the object of a request for issuing
pub five_of-Some : (r c d k m o : Tree) → five_of r ≡ Some (c, d, k, m, o) → r ≡ issue_object c d k m o
five_of-Some r c d k m o h =
    let p : Five = (c, d, k, m, o) in
    let f = and_then-Some five_in (members_of r) p h in
    members_of-Some r f.0 f.1 ∙ ap v.Object (five_in-Some f.0 p f.2)

five_of-object : (c d k m o : Tree) → five_of (issue_object c d k m o) ≡ Some (c, d, k, m, o)
five_of-object c d k m o = ap (option_and_then five_in) (members_of-Object (entries (c, d, k, m, o)))

three_of-Some : (r c d k : Tree) → three_of r ≡ Some (c, d, k) → r ≡ v.Object (three_entries (c, d, k))
three_of-Some r c d k h =
    let p : Three = (c, d, k) in
    let f = and_then-Some three_in (members_of r) p h in
    members_of-Some r f.0 f.1 ∙ ap v.Object (three_in-Some f.0 p f.2)

three_of-object : (c d k : Tree) → three_of (v.Object (three_entries (c, d, k))) ≡ Some (c, d, k)
three_of-object c d k = ap (option_and_then three_in) (members_of-Object (three_entries (c, d, k)))

-- ---- what statements say

-- the statements of a flat meaning are statements
pub all_meant : (r : Tree) (q : List Statement) → IsFlatMeaning r q → ((s : Statement) → Means r s → IsStatement s) → All IsStatement q
all_meant r q m each = λ k d h. each (get_or q k d) ((m.exact (get_or q k d)).0 (Contains-get_or q k d h))

none_some : {A : Type 0} (o : Option A) (x : A) → o ≡ None → o ≡ Some x → ⊥
none_some o x p q = absurd (cc)

-- ---- issuing

module _ (r : Tree) where
  issue_five : (p : IssueParts) → IsIssue r p → five_of r ≡ Some (p.contexts, p.document, p.keys, whole_document, p.options)
  issue_five p i = ap five_of i.is ∙ five_of-object p.contexts p.document p.keys whole_document p.options

  issue_named : (p : IssueParts) → IsIssue r p → issue_names p.document p.options ≡ Some (p.name, p.method)
  issue_named p i =
      let a : lacks proof_name p.document ≡ true = ap is_none i.no_proof in
      let b : lacks value_name p.options ≡ true = ap is_none i.shape.no_value in
      let same : SameBeside value_name p.options p.options = λ key e. refl in
      let m : method_in p.options ≡ Some p.method = method_from p.options p.method (form_from p.options p.options p.method same i.shape) in
      let n : text_under at_context p.document ≡ Some p.name = text_under-from at_context p.document p.name i.context_is in
      names_from (lacks proof_name p.document) (lacks value_name p.options) (text_under at_context p.document) (method_in p.options) p.name p.method a b n m
    where
      names_from : (a b : Bool) (n m : Option (List ℕ)) (x y : List ℕ) → a ≡ true → b ≡ true → n ≡ Some x → m ≡ Some y → only_if (a && b) (option_and_then (λ name. option_map (λ method. two_texts name method) m) n) ≡ Some (two_texts x y)
      names_from a b n m x y p q s t = rw (p, q, s, t) refl

  pub no_members : five_of r ≡ None → IsFlatIssue r → ⊥
  no_members none f = none_some (five_of r) _ none (issue_five f.parts f.are)

  module _ (c d k m o : Tree) (has : five_of r ≡ Some (c, d, k, m, o)) where
    same_five : (p : IssueParts) → IsIssue r p → fives p.contexts p.document p.keys whole_document p.options ≡ fives c d k m o
    same_five p i = same_some (five_of r) (fives p.contexts p.document p.keys whole_document p.options) (fives c d k m o) (issue_five p i) has

    pub not_whole : (m ≡ whole_document → ⊥) → IsFlatIssue r → ⊥
    not_whole never f = never (sym (ap (λ (t : Five). t.3) (same_five f.parts f.are)))

    same_names : (p : IssueParts) → IsIssue r p → issue_names d o ≡ Some (p.name, p.method)
    same_names p i =
        let e = same_five p i in
        subst (λ (t : Five). issue_names t.1 t.4 ≡ Some (p.name, p.method)) e (issue_named p i)

    pub no_names : issue_names d o ≡ None → IsFlatIssue r → ⊥
    no_names none f = none_some (issue_names d o) _ none (same_names f.parts f.are)

    pub no_keys : ((table : List KeyEntry) → IsKeyTable k table → ⊥) → IsFlatIssue r → ⊥
    no_keys never f = never f.parts.table (subst (λ (t : Five). IsKeyTable t.2 f.parts.table) (same_five f.parts f.are) f.are.table)

    pub no_document : (IsFlat (statements_request c (without proof_name d)) → ⊥) → IsFlatIssue r → ⊥
    no_document never f =
        let p = f.parts in
        let whole : without proof_name p.document ≡ p.document = without_none proof_name p.document f.are.no_proof in
        let flat : IsFlat (statements_request p.contexts (without proof_name p.document)) = subst (λ (t : Tree). IsFlat (statements_request p.contexts t)) (sym whole) f.are.document in
        never (subst (λ (t : Five). IsFlat (statements_request t.0 (without proof_name t.1))) (same_five p f.are) flat)

    pub no_options : (name method : List ℕ) → issue_names d o ≡ Some (name, method) → (IsFlat (statements_request c (with_context name (without value_name o))) → ⊥) → IsFlatIssue r → ⊥
    no_options name method named never f =
        let p = f.parts in
        let pair : two_texts p.name p.method ≡ two_texts name method = same_some (issue_names d o) (two_texts p.name p.method) (two_texts name method) (same_names p f.are) named in
        let whole : without value_name p.options ≡ p.options = without_none value_name p.options f.are.shape.no_value in
        let flat : IsFlat (statements_request p.contexts (with_context p.name (without value_name p.options))) = subst (λ (t : Tree). IsFlat (statements_request p.contexts (with_context p.name t))) (sym whole) f.are.options in
        let here : IsFlat (statements_request c (with_context p.name (without value_name o))) = subst (λ (t : Five). IsFlat (statements_request t.0 (with_context p.name (without value_name t.4)))) (same_five p f.are) flat in
        never (subst (λ (n : List ℕ × List ℕ). IsFlat (statements_request c (with_context n.0 (without value_name o)))) pair here)

    pub read_from : (t : IssueRead) (name method : List ℕ) (q u : List Statement) → m ≡ whole_document → issue_names d o ≡ Some (name, method)
        → IsKeyTable k t.keys.entries
        → IsFlat (statements_request c (without proof_name d)) → IsFlatMeaning (statements_request c (without proof_name d)) q → t.quads ≡ map text_quad q
        → ((s : Statement) → Means (statements_request c (without proof_name d)) s → IsStatement s)
        → IsFlat (statements_request c (with_context name (without value_name o))) → IsFlatMeaning (statements_request c (with_context name (without value_name o))) u → t.option_quads ≡ map text_quad u
        → ((s : Statement) → Means (statements_request c (with_context name (without value_name o))) s → IsStatement s)
        → t.method ≡ method → IsIssueRead r t
    read_from t name method q u whole named table flat means spells each oflat omeans ospells oeach method_is =
        let given = provided-Some (lacks proof_name d && lacks value_name o) (option_and_then (λ (n : List ℕ). option_map (λ y. two_texts n y) (method_in o)) (text_under at_context d)) (two_texts name method) named in
        let absent = two (lacks proof_name d) (lacks value_name o) given.0 in
        let outer = and_then-Some (λ (n : List ℕ). option_map (λ y. two_texts n y) (method_in o)) (text_under at_context d) (two_texts name method) given.1 in
        let inner = option_map-Some (λ (y : List ℕ). two_texts outer.0 y) (method_in o) (two_texts name method) outer.2 in
        let name_is : outer.0 ≡ name = ap (λ (n : List ℕ × List ℕ). n.0) inner.2 in
        let method_here : inner.0 ≡ method = ap (λ (n : List ℕ × List ℕ). n.1) inner.2 in
        let no_proof = is_none-true (look (at proof_name) d) absent.0 in
        let no_value = is_none-true (look (at value_name) o) absent.1 in
        let d_whole : without proof_name d ≡ d = without_none proof_name d no_proof in
        let o_whole : without value_name o ≡ o = without_none value_name o no_value in
        let same : SameBeside value_name o o = λ key e. refl in
        let shape : HasShape o method = shape_from o o method same (form_of o method (inner.1 ∙ ap Some method_here)) no_value in
        let parts : IssueParts = record { contexts = c; document = d; keys = k; options = o; name = name; method = method; table = t.keys.entries } in
        record {
          case_of = record { parts = parts; statements = q; options = u };
          is_case = record {
            are = record {
              is = five_of-Some r c d k m o has ∙ ap (λ (x : Tree). issue_object c d k x o) whole;
              document = subst (λ (x : Tree). IsFlat (statements_request c x)) d_whole flat;
              no_proof = no_proof;
              context_is = text_under-Some at_context d name (outer.1 ∙ ap Some name_is);
              options = subst (λ (x : Tree). IsFlat (statements_request c (with_context name x))) o_whole oflat;
              shape = shape;
              table = table;
            };
            means = subst (λ (x : Tree). IsFlatMeaning (statements_request c x) q) d_whole means;
            options_mean = subst (λ (x : Tree). IsFlatMeaning (statements_request c (with_context name x)) u) o_whole omeans;
          };
          method = method_is;
          keys = refl;
          quads = spells;
          option_quads = ospells;
          are_statements = all_meant _ q means each;
          are_options = all_meant _ u omeans oeach;
        }
      where
        two : (a b : Bool) → (a && b) ≡ true → (a ≡ true) × (b ≡ true)
        two true true h = (refl, refl)
        two false b h = absurd (cc)
        two true false h = absurd (cc)

-- ---- verifying

module _ (r : Tree) where
  verify_three : (p : VerifyParts) → IsVerify r p → three_of r ≡ Some (p.contexts, p.document, p.keys)
  verify_three p i = ap three_of i.is ∙ three_of-object p.contexts p.document p.keys

  verify_parted : (p : VerifyParts) → IsVerify r p → proof_parts p.document ≡ Some (p.proof, p.name, p.method, p.value)
  verify_parted p i =
      let m : method_in p.proof ≡ Some p.method = method_from p.proof p.method (form_from p.proof (without value_name p.proof) p.method (look_without p.proof value_name) i.shape) in
      let n : text_under at_context p.document ≡ Some p.name = text_under-from at_context p.document p.name i.context_is in
      let w : text_under value_name p.proof ≡ Some p.value = text_under-from value_name p.proof p.value i.value_is in
      rw (i.proof_is, n, m, w) refl

  pub no_three : three_of r ≡ None → IsFlatVerify r → ⊥
  no_three none f = none_some (three_of r) _ none (verify_three f.parts f.are)

  module _ (c d k : Tree) (has : three_of r ≡ Some (c, d, k)) where
    same_three : (p : VerifyParts) → IsVerify r p → threes p.contexts p.document p.keys ≡ threes c d k
    same_three p i = same_some (three_of r) (threes p.contexts p.document p.keys) (threes c d k) (verify_three p i) has

    same_parts : (p : VerifyParts) → IsVerify r p → proof_parts d ≡ Some (p.proof, p.name, p.method, p.value)
    same_parts p i = subst (λ (t : Three). proof_parts t.1 ≡ Some (p.proof, p.name, p.method, p.value)) (same_three p i) (verify_parted p i)

    pub no_parts : proof_parts d ≡ None → IsFlatVerify r → ⊥
    no_parts none f = none_some (proof_parts d) _ none (same_parts f.parts f.are)

    pub no_table : ((table : List KeyEntry) → IsKeyTable k table → ⊥) → IsFlatVerify r → ⊥
    no_table never f = never f.parts.table (subst (λ (t : Three). IsKeyTable t.2 f.parts.table) (same_three f.parts f.are) f.are.table)

    pub no_body : (IsFlat (statements_request c (without proof_name d)) → ⊥) → IsFlatVerify r → ⊥
    no_body never f = never (subst (λ (t : Three). IsFlat (statements_request t.0 (without proof_name t.1))) (same_three f.parts f.are) f.are.document)

    pub no_proof_options : (proof : Tree) (name method value : List ℕ) → proof_parts d ≡ Some (proof, name, method, value) → (IsFlat (statements_request c (with_context name (without value_name proof))) → ⊥) → IsFlatVerify r → ⊥
    no_proof_options proof name method value parted never f =
        let p = f.parts in
        let e : fours p.proof p.name p.method p.value ≡ fours proof name method value = same_some (proof_parts d) (fours p.proof p.name p.method p.value) (fours proof name method value) (same_parts p f.are) parted in
        let here : IsFlat (statements_request c (with_context p.name (without value_name p.proof))) = subst (λ (t : Three). IsFlat (statements_request t.0 (with_context p.name (without value_name p.proof)))) (same_three p f.are) f.are.options in
        never (subst (λ (n : Tree × List ℕ × List ℕ × List ℕ). IsFlat (statements_request c (with_context n.1 (without value_name n.0)))) e here)

    pub task_from : (t : VerifyTask) (proof : Tree) (name method value : List ℕ) (q u : List Statement) → proof_parts d ≡ Some (proof, name, method, value)
        → IsKeyTable k t.keys.entries
        → IsFlat (statements_request c (without proof_name d)) → IsFlatMeaning (statements_request c (without proof_name d)) q → t.quads ≡ map text_quad q
        → ((s : Statement) → Means (statements_request c (without proof_name d)) s → IsStatement s)
        → IsFlat (statements_request c (with_context name (without value_name proof))) → IsFlatMeaning (statements_request c (with_context name (without value_name proof))) u → t.option_quads ≡ map text_quad u
        → ((s : Statement) → Means (statements_request c (with_context name (without value_name proof))) s → IsStatement s)
        → t.method ≡ method → t.value ≡ value → IsVerifyTask r t
    task_from t proof name method value q u parted table flat means spells each oflat omeans ospells oeach method_is value_is =
        let f0 = and_then-Some (λ (x : Tree). option_and_then (λ n. option_and_then (λ y. option_map (λ w. fours x n y w) (text_under value_name x)) (method_in x)) (text_under at_context d)) (look (at proof_name) d) (fours proof name method value) parted in
        let f1 = and_then-Some (λ n. option_and_then (λ y. option_map (λ w. fours f0.0 n y w) (text_under value_name f0.0)) (method_in f0.0)) (text_under at_context d) (fours proof name method value) f0.2 in
        let f2 = and_then-Some (λ y. option_map (λ w. fours f0.0 f1.0 y w) (text_under value_name f0.0)) (method_in f0.0) (fours proof name method value) f1.2 in
        let f3 = option_map-Some (λ (w : List ℕ). fours f0.0 f1.0 f2.0 w) (text_under value_name f0.0) (fours proof name method value) f2.2 in
        let proof_is : f0.0 ≡ proof = ap (λ (n : Tree × List ℕ × List ℕ × List ℕ). n.0) f3.2 in
        let name_is : f1.0 ≡ name = ap (λ (n : Tree × List ℕ × List ℕ × List ℕ). n.1) f3.2 in
        let method_here : f2.0 ≡ method = ap (λ (n : Tree × List ℕ × List ℕ × List ℕ). n.2) f3.2 in
        let value_here : f3.0 ≡ value = ap (λ (n : Tree × List ℕ × List ℕ × List ℕ). n.3) f3.2 in
        let in_proof : method_in proof ≡ Some method = ap method_in (sym proof_is) ∙ f2.1 ∙ ap Some method_here in
        let shape : HasShape (without value_name proof) method = shape_from proof (without value_name proof) method (look_without proof value_name) (form_of proof method in_proof) (look_removed proof value_name) in
        record {
          parts = record { contexts = c; document = d; keys = k; proof = proof; name = name; method = method; value = value; table = t.keys.entries };
          statements = q;
          option_statements = u;
          are = record {
            is = three_of-Some r c d k has;
            document = flat;
            proof_is = f0.1 ∙ ap Some proof_is;
            context_is = text_under-Some at_context d name (f1.1 ∙ ap Some name_is);
            value_is = text_under-Some value_name proof value (ap (text_under value_name) (sym proof_is) ∙ f3.1 ∙ ap Some value_here);
            options = oflat;
            shape = shape;
            table = table;
          };
          means = means;
          options_mean = omeans;
          method = method_is;
          value = value_is;
          keys = refl;
          quads = spells;
          option_quads = ospells;
          are_statements = all_meant _ q means each;
          are_options = all_meant _ u omeans oeach;
        }

-- ---- a fault that is handed on

-- an error that is passed on is the one that came
pub passed : {T E : Type 0} (r : Result T E) (e k : E) → IsErrAnd r (λ y. y ≡ e) → IsErrOf r k → e ≡ k
passed (Ok x) e k is h = absurd (cc)
passed (Err y) e k is h = cc
