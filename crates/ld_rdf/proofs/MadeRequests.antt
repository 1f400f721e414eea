-- Requests that are made of parts: they are lawful, and their statements are those of the parts.
use Rattle.std.proofs.Common.{◌≡◌, ℕ, true, List, [], ◌∷◌, Option, Some, None, option_map, option_and_then, refl, sym, ap, ◌∙◌, codes}
use Rattle.json_tree.specs.declared.tree.Tree.{Tree}
use Rattle.json_tree.specs.declared.tree.Tree.TheVariants as v
use Rattle.json_tree.specs.declared.tree.Member.{Member}
use Rattle.json_tree.specs.Trees.{new_member, is_lawful}
use Rattle.json_tree.specs.Places.{members_of}
use Rattle.std.proofs.lemmas.Bool.{and_from}
use Rattle.json_tree.proofs.MemberChanges.{without_lawful, put_lawful, members_of-with_members, lawful_object, is_lawful-with_members}
use Rattle.json_tree.proofs.TreeLemmas.{is_lawful-Text, members_of-Object}
use Rattle.nquads.specs.Terms.{Statement}
use Rattle.ld_rdf.specs.Flat.{at_context, at_id}
use Rattle.json_tree.specs.Members.{without_key, without, put_member}
use Rattle.ld_rdf.specs.Reduced.{statements_request, with_context}
use Rattle.ld_rdf.specs.Internal.Parts.{only_if, member_text, two_in, SuppliedContext, supplied_context, agrees, text_beside, statements_beside, statements_under, chosen_statements, reduced_statements, request_statements}
use Rattle.ld_rdf.proofs.WholeRequests.{document_statements, flat_statements}
use Rattle.ld_rdf.proofs.Reductions.{text_at-without, text_at-put, id_under_put, statements_in-without, statements_in-put, statements_beside_context}

-- ---- lawful

-- a lawful tree without a member is lawful
pub without_is_lawful : (besides : List ℕ) (t : Tree) → is_lawful t ≡ true → is_lawful (without besides t) ≡ true
without_is_lawful besides t lawful = is_lawful-with_members (without_key besides) t lawful (without_lawful besides)

-- a lawful tree that takes a context is lawful
pub taking_is_lawful : (name : List ℕ) (t : Tree) → is_lawful t ≡ true → is_lawful (with_context name t) ≡ true
taking_is_lawful name t lawful =
    is_lawful-with_members (put_member (new_member at_context (v.Text name))) t lawful (λ ms l. put_lawful (new_member at_context (v.Text name)) ms (is_lawful-Text name) l)

-- the request that is made of two lawful trees is lawful
pub request_is_lawful : (contexts t : Tree) → is_lawful contexts ≡ true → is_lawful t ≡ true → is_lawful (statements_request contexts t) ≡ true
request_is_lawful contexts t one two = lawful_object _ (record { rising = refl; values = and_from (is_lawful contexts) _ one (and_from (is_lawful t) true two refl) })

-- ---- options

and_then-none : {A B : Type 0} (f : A → Option B) → ((a : A) → f a ≡ None) → (o : Option A) → None ≡ option_and_then f o
and_then-none f none None = refl
and_then-none f none (Some a) = sym (none a)

and_then-map : {A B C : Type 0} (f : B → Option C) (g : A → B) (o : Option A) → option_and_then f (option_map g o) ≡ option_and_then (λ a. f (g a)) o
and_then-map f g None = refl
and_then-map f g (Some a) = refl

and_then-swap : {A B C : Type 0} (f : A → B → Option C) (a : Option A) (b : Option B) → option_and_then (λ x. option_and_then (f x) b) a ≡ option_and_then (λ y. option_and_then (λ x. f x y) a) b
and_then-swap f None b = and_then-none (λ y. option_and_then (λ x. f x y) None) (λ y. refl) b
and_then-swap f (Some x) None = refl
and_then-swap f (Some x) (Some y) = refl

-- a name that is read of the members may be read before the context is
name_first : (f : SuppliedContext → List (Member Tree) → Option (List Statement)) (g : List ℕ → SuppliedContext → List (Member Tree) → Option (List Statement)) (name : List (Member Tree) → Option (List ℕ)) → ((c : SuppliedContext) (ms : List (Member Tree)) → f c ms ≡ option_and_then (λ chosen. g chosen c ms) (name ms)) → (s : Option SuppliedContext) (o : Option (List (Member Tree))) → option_and_then (λ c. option_and_then (f c) o) s ≡ option_and_then (λ ms. option_and_then (λ chosen. option_and_then (λ c. option_and_then (g chosen c) o) s) (name ms)) o
name_first f g name same s None = sym (and_then-none (λ c. option_and_then (f c) None) (λ c. refl) s)
name_first f g name same None (Some ms) = and_then-none (λ chosen. option_and_then (λ c. option_and_then (g chosen c) (Some ms)) None) (λ chosen. refl) (name ms)
name_first f g name same (Some c) (Some ms) = same c ms

-- ---- the statements of members

described-without : (besides : List ℕ) (c : SuppliedContext) (ms : List (Member Tree)) → document_statements c (without_key besides ms) ≡ option_and_then (λ chosen. statements_under besides chosen c ms) (text_beside besides at_context ms)
described-without besides c ms =
    let id = text_at-without besides at_id ms in
    let chosen = text_at-without besides at_context ms in
    let same = λ (id : List ℕ). statements_in-without c.1 id besides ms in
    (λ i. option_and_then (λ id. option_and_then (λ chosen. only_if (agrees c.0 chosen id c.1) (same id i)) (chosen i)) (id i))
    ∙ and_then-swap (λ id chosen. only_if (agrees c.0 chosen id c.1) (statements_beside besides c.1 id ms)) (text_beside besides at_id ms) (text_beside besides at_context ms)

described-taking : (besides name : List ℕ) (c : SuppliedContext) (ms : List (Member Tree)) → document_statements c (put_member (new_member at_context (v.Text name)) (without_key besides ms)) ≡ statements_under besides name c ms
described-taking besides name c ms =
    let id : member_text at_id (put_member (new_member at_context (v.Text name)) (without_key besides ms)) ≡ text_beside besides at_id ms = id_under_put (v.Text name) (without_key besides ms) ∙ text_at-without besides at_id ms in
    let chosen = text_at-put name (without_key besides ms) in
    let same = λ (id : List ℕ). statements_in-put c.1 id (v.Text name) (without_key besides ms) ∙ statements_in-without c.1 id besides ms in
    (λ i. option_and_then (λ id. option_and_then (λ chosen. only_if (agrees c.0 chosen id c.1) (same id i)) (chosen i)) (id i))

described-whole : (c : SuppliedContext) (ms : List (Member Tree)) → document_statements c ms ≡ option_and_then (λ chosen. statements_under at_context chosen c ms) (member_text at_context ms)
described-whole c ms =
    (λ i. option_and_then (λ id. option_and_then (λ chosen. only_if (agrees c.0 chosen id c.1) (sym (statements_beside_context c.1 id ms) i)) (member_text at_context ms)) (member_text at_id ms))
    ∙ and_then-swap (λ id chosen. only_if (agrees c.0 chosen id c.1) (statements_beside at_context c.1 id ms)) (member_text at_id ms) (member_text at_context ms)

-- ---- the statements of requests

made : (contexts t : Tree) → flat_statements (statements_request contexts t) ≡ option_and_then (λ c. option_and_then (document_statements c) (members_of t)) (supplied_context contexts)
made contexts t =
    ap (λ (o : Option (List (Member Tree))). option_and_then (λ (two : Tree × Tree). option_and_then (λ c. option_and_then (document_statements c) (members_of two.1)) (supplied_context two.0)) (option_and_then two_in o))
    (members_of-Object (new_member (codes "contexts") contexts ∷ new_member (codes "document") t ∷ []))

-- the request made of a document without a member has the statements that the code reads off it
pub document_made : (besides : List ℕ) (contexts document : Tree) → flat_statements (statements_request contexts (without besides document)) ≡ reduced_statements besides contexts document
document_made besides contexts document =
    let members : members_of (without besides document) ≡ option_map (without_key besides) (members_of document) = members_of-with_members (without_key besides) document in
    made contexts (without besides document)
    ∙ (λ i. option_and_then (λ c. option_and_then (document_statements c) (members i)) (supplied_context contexts))
    ∙ (λ i. option_and_then (λ c. and_then-map (document_statements c) (without_key besides) (members_of document) i) (supplied_context contexts))
    ∙ name_first (λ c ms. document_statements c (without_key besides ms)) (statements_under besides) (text_beside besides at_context) (described-without besides) (supplied_context contexts) (members_of document)

-- the request made of options has the statements that the code reads off them
pub options_made : (besides name : List ℕ) (contexts options : Tree) → flat_statements (statements_request contexts (with_context name (without besides options))) ≡ chosen_statements besides contexts name options
options_made besides name contexts options =
    let put : List (Member Tree) → List (Member Tree) = put_member (new_member at_context (v.Text name)) in
    let members : members_of (with_context name (without besides options)) ≡ option_map put (option_map (without_key besides) (members_of options)) =
    members_of-with_members (put_member (new_member at_context (v.Text name))) (without besides options) ∙ ap (option_map (put_member (new_member at_context (v.Text name)))) (members_of-with_members (without_key besides) options) in
    made contexts (with_context name (without besides options))
    ∙ (λ i. option_and_then (λ c. option_and_then (document_statements c) (members i)) (supplied_context contexts))
    ∙ (λ i. option_and_then (λ c. (and_then-map (document_statements c) (put_member (new_member at_context (v.Text name))) (option_map (without_key besides) (members_of options))
    ∙ and_then-map (λ ms. document_statements c (put_member (new_member at_context (v.Text name)) ms)) (without_key besides) (members_of options)
    ∙ (λ j. option_and_then (λ ms. described-taking besides name c ms j) (members_of options))) i) (supplied_context contexts))

-- a whole request has the statements that the code reads off it
pub whole_made : (r : Tree) → flat_statements r ≡ request_statements r
whole_made r =
    (λ i. option_and_then (λ (two : Tree × Tree). name_first document_statements (statements_under at_context) (member_text at_context) described-whole (supplied_context two.0) (members_of two.1) i) (option_and_then two_in (members_of r)))
