-- The script of every sample.
use Rattle.std.specs.Prelude.{ℕ, List, ◌++◌, codes}

-- four tables, and their join along the numbers that they name, with two conditions
unfoldable pub sample_script : List ℕ
sample_script =
    codes "CREATE TABLE nations (id INT, name TEXT); "
    ++ codes "CREATE TABLE customers (id INT, nation INT); "
    ++ codes "CREATE TABLE orders (id INT, customer INT); "
    ++ codes "CREATE TABLE items (id INT, order_id INT, qty INT); "
    ++ codes "SELECT i.id, o.id, c.id, n.name FROM items i, orders o, customers c, nations n "
    ++ codes "WHERE i.order_id = o.id AND o.customer = c.id AND c.nation = n.id "
    ++ codes "AND n.name = 'nation_7' AND i.qty < 5"
