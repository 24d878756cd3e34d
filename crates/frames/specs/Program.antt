-- The program that a text stands for, free of its layout: nothing here knows how many names, grades or nodes a frame has room for.
-- Assumes nothing.
use Rattle.std.specs.Prelude.{ℕ, Bool, false, List, [], get_or}

-- a field: its width (0 narrow, 1 wide) and its guard (0 final, 1 guarded, 2 write-guarded, 3 none)
pub record Field : Type 0 where
  pub width : ℕ
  pub guard : ℕ

-- a node: its op; its children X, Y, Z, counted from 0 within the method; its field or method U; its names T0, T1, ..
pub record Node : Type 0 where
  pub op : ℕ
  pub X : ℕ
  pub Y : ℕ
  pub Z : ℕ
  pub U : ℕ
  pub names : List ℕ

-- a method: how many lock names it has; whether it is declared, and then its declared table, an entry for each held set; its nodes,
-- of which the last is the root
pub record Method : Type 0 where
  pub k : ℕ
  pub declared : Bool
  pub table : List ℕ
  pub nodes : List Node

pub record Program : Type 0 where
  pub fields : List Field
  pub methods : List Method

-- ---- what a program has at a number; a number that it has nothing at has a stand-in

-- a field that the program lacks permits nothing: no guard has this number, so each access is error
unfoldable pub no_field : Field
no_field = record { width = 1; guard = 0xFF }

-- a node that the method lacks is a plain value
unfoldable pub plain_node : Node
plain_node = record { op = 0; X = 0; Y = 0; Z = 0; U = 0; names = [] }

-- a method that the program lacks has no name, no declaration and no node
unfoldable pub no_method : Method
no_method = record { k = 0; declared = false; table = []; nodes = [] }

unfoldable pub field_at : Program → ℕ → Field
field_at p u = get_or p.fields u no_field

unfoldable pub method_at : Program → ℕ → Method
method_at p m = get_or p.methods m no_method

-- a method's nodes by number
unfoldable pub node_at : Method → ℕ → Node
node_at method n = get_or method.nodes n plain_node
