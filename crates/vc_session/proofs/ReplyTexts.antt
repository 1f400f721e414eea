-- The replies that are made without memory are the lines of their trees.
use Rattle.std.proofs.Common.{◌≡◌, ℕ, pos, List, [], ◌∷◌, ◌++◌, map, sym, ap, ◌∙◌, codes}
use Rattle.std.specs.Fmt.{digits}
use Rattle.json.specs.Print.{escape_byte}
use Rattle.serde_json.specs.Data.{Data, object, string, number, member, no_members}
use Rattle.serde_json.specs.Find.{of_integer}
use Rattle.serde_json.specs.Written.{compact_text}
use Rattle.json_tree.specs.declared.tree.Tree.{Tree}
use Rattle.json_tree.specs.declared.tree.Tree.TheVariants as v
use Rattle.json_tree.specs.declared.tree.Member.{Member}
use Rattle.json_tree.specs.Trees.{new_member}
use Rattle.json_tree.specs.Prints.{data_of, members_data}
use Rattle.json_tree.proofs.Equations.{data_of-Object, data_of-Text, data_of-Whole, datum}
use Rattle.vc_session.specs.Replies.{depth_limit, input_limit}
use Rattle.vc_session.specs.ReplyTrees.{limit_refusal, line_of, name_field, number_field, plain_refusal, refusal_tree}

-- ---- the JSON values of these trees

abbrev refusal_of : Data → Data
refusal_of d = object (member (codes "refused") d no_members)

refusal_data : (fields : List (Member Tree)) → data_of (refusal_tree fields) ≡ refusal_of (object (members_data (map datum fields)))
refusal_data fields = data_of-Object (new_member (codes "refused") (v.Object fields) ∷ []) ∙ ap refusal_of (data_of-Object fields)

plain_data : (name : List ℕ) → data_of (plain_refusal name) ≡ refusal_of (object (member (codes "name") (string name) no_members))
plain_data name = refusal_data (name_field name ∷ []) ∙ ap (λ d. refusal_of (object (member (codes "name") d no_members))) (data_of-Text name)

limit_data : (n : ℕ) (name : List ℕ) → data_of (limit_refusal n name) ≡ refusal_of (object (member (codes "limit") (number (of_integer (pos n))) (member (codes "name") (string name) no_members)))
limit_data n name = refusal_data (number_field (codes "limit") n ∷ name_field name ∷ []) ∙ (λ i. refusal_of (object (member (codes "limit") (data_of-Whole (pos n) i) (member (codes "name") (data_of-Text name i) no_members))))

line_is : (t : Tree) (d : Data) → data_of t ≡ d → line_of t ≡ compact_text d ++ codes "\n"
line_is t d e = ap (λ x. compact_text x ++ codes "\n") e

plain_line : (name : List ℕ) → line_of (plain_refusal name) ≡ compact_text (refusal_of (object (member (codes "name") (string name) no_members))) ++ codes "\n"
plain_line name = line_is (plain_refusal name) _ (plain_data name)

limit_line : (n : ℕ) (name : List ℕ) → line_of (limit_refusal n name) ≡ compact_text (refusal_of (object (member (codes "limit") (number (of_integer (pos n))) (member (codes "name") (string name) no_members)))) ++ codes "\n"
limit_line n name = line_is (limit_refusal n name) _ (limit_data n name)

-- ---- the texts

-- the line of the refusal NotJson
pub not_json_line : codes "{\"refused\":{\"name\":\"NotJson\"}}\n" ≡ line_of (plain_refusal (codes "NotJson"))
unfolding escape_byte
not_json_line = sym (plain_line (codes "NotJson"))

-- the line of the refusal NotBuilt
pub not_built_line : codes "{\"refused\":{\"name\":\"NotBuilt\"}}\n" ≡ line_of (plain_refusal (codes "NotBuilt"))
unfolding escape_byte
not_built_line = sym (plain_line (codes "NotBuilt"))

-- the line of the refusal NoStatements
pub no_statements_line : codes "{\"refused\":{\"name\":\"NoStatements\"}}\n" ≡ line_of (plain_refusal (codes "NoStatements"))
unfolding escape_byte
no_statements_line = sym (plain_line (codes "NoStatements"))

-- the line of the refusal DeviceFault
pub device_fault_line : codes "{\"refused\":{\"name\":\"DeviceFault\"}}\n" ≡ line_of (plain_refusal (codes "DeviceFault"))
unfolding escape_byte
device_fault_line = sym (plain_line (codes "DeviceFault"))

-- the line of the refusal ReadFault
pub read_fault_line : codes "{\"refused\":{\"name\":\"ReadFault\"}}\n" ≡ line_of (plain_refusal (codes "ReadFault"))
unfolding escape_byte
read_fault_line = sym (plain_line (codes "ReadFault"))

-- the line of the refusal Memory
pub memory_line : codes "{\"refused\":{\"name\":\"Memory\"}}\n" ≡ line_of (plain_refusal (codes "Memory"))
unfolding escape_byte
memory_line = sym (plain_line (codes "Memory"))

-- the line of the refusal TooLong, with the limit
pub too_long_line : codes "{\"refused\":{\"limit\":8388608,\"name\":\"TooLong\"}}\n" ≡ line_of (limit_refusal input_limit (codes "TooLong"))
unfolding escape_byte digits
too_long_line = sym (limit_line input_limit (codes "TooLong"))

-- the line of the refusal TreeTooDeep, with the limit
pub too_deep_line : codes "{\"refused\":{\"limit\":100,\"name\":\"TreeTooDeep\"}}\n" ≡ line_of (limit_refusal depth_limit (codes "TreeTooDeep"))
unfolding escape_byte digits
too_deep_line = sym (limit_line depth_limit (codes "TreeTooDeep"))

pub ruleset reply_lines = (not_json_line, not_built_line, no_statements_line, device_fault_line, read_fault_line, memory_line, too_long_line, too_deep_line)
